-- How many lines constants have, by their sizes.
use Rattle.std.specs.Prelude.{◌≡◌, ℕ, zero, suc, ◌+◌, ◌-◌, ◌*◌, ◌%◌, ◌^◌, ◌<◌, ◌≤◌, Bool, true, false, ℤ, pos, negsuc, ◌+ℤ◌, ◌*ℤ◌, List, length, unsigned_abs, if◌then◌else◌}
use Rattle.std.specs.Int.{int_shr, int_wrap, w64}
use Rattle.std.proofs.Common.{refl, arith, ap, sym, ◌∙◌, length-append}
use Rattle.std.proofs.lemmas.Bool.Decides.{nat_tests}
use Rattle.std.proofs.lemmas.Int.{fits_signed_from_abs, int_wrap-mul_right, int_wrap_fits, ints}
use Rattle.rv_line.specs.declared.line.Line.{Line}
use Rattle.rv_steps.specs.Constants.{constant_lines, is_signed_below, shift_lines, shifted_lines, short_lines, upper_of}
use Rattle.rv_emit.specs.Walks.{bytes}

-- ---- sizes

below_abs : (bound : ℕ) (z : ℤ) → is_signed_below bound z ≡ true → unsigned_abs z ≤ bound
below_abs bound (pos n) h = let b : n < bound = grind (arith, nat_tests) in omega (arith, ints)
below_abs bound (negsuc n) h = let b : n < bound = grind (arith, nat_tests) in omega (arith, ints)

above_abs : (bound : ℕ) (z : ℤ) → is_signed_below bound z ≡ false → bound ≤ unsigned_abs z
above_abs bound (pos n) h = let b : bound ≤ n = grind (arith, nat_tests) in omega (arith, ints)
above_abs bound (negsuc n) h = let b : bound ≤ n = grind (arith, nat_tests) in omega (arith, ints)

abs_below : (bound : ℕ) (z : ℤ) → unsigned_abs z < bound → is_signed_below bound z ≡ true
abs_below bound (pos n) h = let b : n < bound = omega (arith, ints) in grind (arith, nat_tests)
abs_below bound (negsuc n) h = let b : n < bound = omega (arith, ints) in grind (arith, nat_tests)

abs_above : (bound : ℕ) (z : ℤ) → bound < unsigned_abs z → is_signed_below bound z ≡ false
abs_above bound (pos n) h = let b : bound ≤ n = omega (arith, ints) in grind (arith, nat_tests)
abs_above bound (negsuc n) h = let b : bound ≤ n = omega (arith, ints) in grind (arith, nat_tests)

-- a shift down leaves less than 4096
shifted : (y : ℤ) → (r : ℕ) × (r < 4096) × (y ≡ pos 4096 *ℤ int_shr y 12 +ℤ pos r)
shifted (pos n) = (n % 4096, omega arith, omega (arith, ints))
shifted (negsuc n) = (4095 - n % 4096, omega arith, omega (arith, ints))

upper_most : (z : ℤ) (most : ℕ) → unsigned_abs z ≤ 4096 * most → unsigned_abs (upper_of z) ≤ most
upper_most z most h = let s = shifted (z +ℤ pos 2048) in omega (arith, ints)

upper_least : (z : ℤ) → unsigned_abs z ≤ 4096 * unsigned_abs (upper_of z) + 2048
upper_least z = let s = shifted (z +ℤ pos 2048) in omega (arith, ints)

-- ---- lines by levels

-- what holds of both choices
either : (P : List Line → Type 0) (test : Bool) (one other : List Line) → P one → P other → P (if test then one else other)
either P true one other p q = p
either P false one other p q = q

few_short : (to : ℕ) (value : ℤ) → length (short_lines to value) ≤ 2
few_short to value = either (λ xs. length xs ≤ 2) (is_signed_below 2048 value) _ _ (omega arith) (omega arith)

some_short : (to : ℕ) (value : ℤ) → 1 ≤ length (short_lines to value)
some_short to value = either (λ xs. 1 ≤ length xs) (is_signed_below 2048 value) _ _ (omega arith) (omega arith)

few_narrow : (levels to : ℕ) (value : ℤ) → is_signed_below (2 ^ 31) value ≡ true → length (shifted_lines levels to value) ≤ 2
unfolding shifted_lines
few_narrow zero to value narrow = few_short to value
few_narrow (suc levels) to value narrow = rw narrow (few_short to value)

wide_lines : (levels to : ℕ) (value : ℤ) → is_signed_below (2 ^ 31) value ≡ false
    → length (shifted_lines (suc levels) to value) ≡ length (shifted_lines levels to (upper_of value)) + 2
unfolding shifted_lines
wide_lines levels to value wide = rw wide (length-append (shifted_lines levels to (upper_of value)) (shift_lines to value))

some_lines : (levels to : ℕ) (value : ℤ) → 1 ≤ length (shifted_lines levels to value)
unfolding shifted_lines
some_lines zero to value = some_short to value
some_lines (suc levels) to value =
    either (λ xs. 1 ≤ length xs) (is_signed_below (2 ^ 31) value) _ _ (some_short to value)
    (omega (arith, length-append (shifted_lines levels to (upper_of value)) (shift_lines to value)))

most_lines : (levels to : ℕ) (value : ℤ) → length (shifted_lines levels to value) ≤ 2 * levels + 2
unfolding shifted_lines
most_lines zero to value = few_short to value
most_lines (suc levels) to value =
    let short = few_short to value in
    let few = most_lines levels to (upper_of value) in
    either (λ xs. length xs ≤ 2 * suc levels + 2) (is_signed_below (2 ^ 31) value) _ _ (omega arith)
    (omega (arith, length-append (shifted_lines levels to (upper_of value)) (shift_lines to value)))

-- two lines at least where twelve bits are not enough
two_short : (to : ℕ) (value : ℤ) → is_signed_below 2048 value ≡ false → 2 ≤ length (short_lines to value)
two_short to value large = rw large (omega arith)

two_lines : (levels to : ℕ) (value : ℤ) → is_signed_below 2048 value ≡ false → 2 ≤ length (shifted_lines levels to value)
unfolding shifted_lines
two_lines zero to value large = two_short to value large
two_lines (suc levels) to value large =
    either (λ xs. 2 ≤ length xs) (is_signed_below (2 ^ 31) value) _ _ (two_short to value large)
    (omega (arith, length-append (shifted_lines levels to (upper_of value)) (shift_lines to value)))

-- all registers take as many
same_either : (test : Bool) (one other three four : List Line) → length one ≡ length three → length other ≡ length four
    → length (if test then one else other) ≡ length (if test then three else four)
same_either true one other three four p q = p
same_either false one other three four p q = q

same_short : (to from : ℕ) (value : ℤ) → length (short_lines to value) ≡ length (short_lines from value)
same_short to from value = same_either (is_signed_below 2048 value) _ _ _ _ refl refl

same_lines : (levels to from : ℕ) (value : ℤ) → length (shifted_lines levels to value) ≡ length (shifted_lines levels from value)
unfolding shifted_lines
same_lines zero to from value = same_short to from value
same_lines (suc levels) to from value =
    same_either (is_signed_below (2 ^ 31) value) _ _ _ _ (same_short to from value)
    (let upper = same_lines levels to from (upper_of value) in
    length-append (shifted_lines levels to (upper_of value)) (shift_lines to value) ∙ ap (λ n. n + 2) upper
    ∙ sym (length-append (shifted_lines levels from (upper_of value)) (shift_lines from value)))

-- ---- lines of constants

pub constants_same : (to from : ℕ) (value : ℤ) → length (constant_lines to value) ≡ length (constant_lines from value)
constants_same to from value = same_lines 3 to from value

pub constants_some : (to : ℕ) (value : ℤ) → 1 ≤ length (constant_lines to value)
constants_some to value = some_lines 3 to value

pub constants_most : (to : ℕ) (value : ℤ) → length (constant_lines to value) ≤ 8
constants_most to value = most_lines 3 to value

pub constants_two : (to : ℕ) (value : ℤ) → unsigned_abs value < 2 ^ 31 → length (constant_lines to value) ≤ 2
constants_two to value small = few_narrow 3 to value (abs_below (2 ^ 31) value small)

four_by : (levels to : ℕ) (value : ℤ) (test : Bool) → is_signed_below (2 ^ 31) value ≡ test → unsigned_abs value ≤ 2 ^ 42
    → length (shifted_lines (suc levels) to value) ≤ 4
four_by levels to value true narrow small = omega (arith, few_narrow (suc levels) to value narrow)
four_by levels to value false wide small =
    let upper = upper_most value (2 ^ 30) (omega (arith, small)) in
    omega (
      arith,
      wide_lines levels to value wide,
      few_narrow levels to (upper_of value)
          (abs_below (2 ^ 31) (upper_of value) (omega (arith, upper))),
    )

six_by : (levels to : ℕ) (value : ℤ) (test : Bool) → is_signed_below (2 ^ 31) value ≡ test → unsigned_abs value ≤ 2 ^ 53
    → length (shifted_lines (suc (suc levels)) to value) ≤ 6
six_by levels to value true narrow small = omega (arith, few_narrow (suc (suc levels)) to value narrow)
six_by levels to value false wide small =
    let upper = upper_most value (2 ^ 41) (omega (arith, small)) in
    omega (
      arith,
      wide_lines (suc levels) to value wide,
      four_by levels to (upper_of value) (is_signed_below (2 ^ 31) (upper_of value)) refl (omega (arith, upper)),
    )

pub constants_four : (to : ℕ) (value : ℤ) → unsigned_abs value ≤ 2 ^ 42 → length (constant_lines to value) ≤ 4
constants_four to value small = four_by 2 to value (is_signed_below (2 ^ 31) value) refl small

pub constants_six : (to : ℕ) (value : ℤ) → unsigned_abs value ≤ 2 ^ 53 → length (constant_lines to value) ≤ 6
constants_six to value small = six_by 1 to value (is_signed_below (2 ^ 31) value) refl small

-- ---- lines of bytes

bytes_of : (words : ℤ) → unsigned_abs words ≤ 2 ^ 50 → unsigned_abs (bytes words) ≤ 8 * unsigned_abs words
bytes_of words small =
    let whole = int_wrap_fits w64 (pos 8 *ℤ words) (fits_signed_from_abs w64 (pos 8 *ℤ words) (omega (arith, ints))) in
    rw whole (omega (arith, ints))

pub bytes_wrap : (words : ℤ) → bytes (int_wrap w64 words) ≡ bytes words
bytes_wrap words = int_wrap-mul_right w64 (pos 8) words

twelve_bytes : (to : ℕ) (words : ℤ) → is_signed_below 2048 words ≡ true
    → length (constant_lines to (bytes words)) ≤ length (constant_lines to words) + 2
twelve_bytes to words small =
    let size = below_abs 2048 words small in
    let eight = bytes_of words (omega (arith, size)) in
    let few = constants_two to (bytes words) (omega (arith, size, eight)) in
    omega (arith, few)

narrow_bytes : (to : ℕ) (words : ℤ) → is_signed_below 2048 words ≡ false → is_signed_below (2 ^ 31) words ≡ true
    → length (constant_lines to (bytes words)) ≤ length (constant_lines to words) + 2
narrow_bytes to words large small =
    let size = below_abs (2 ^ 31) words small in
    let eight = bytes_of words (omega (arith, size)) in
    let few = constants_four to (bytes words) (omega (arith, size, eight)) in
    let two = two_lines 3 to words large in
    omega (arith, few, two)

-- the upper part of a number beyond 32 bits is one beyond 12 bits
upper_large : (value : ℤ) → is_signed_below (2 ^ 31) value ≡ false → is_signed_below 2048 (upper_of value) ≡ false
upper_large value wide =
    let size = above_abs (2 ^ 31) value wide in
    let least = upper_least value in
    abs_above 2048 (upper_of value) (omega (arith, size, least))

wide_bytes : (to : ℕ) (words : ℤ) (test : Bool) → is_signed_below (2 ^ 31) words ≡ false → is_signed_below (2 ^ 31) (upper_of words) ≡ test
    → length (constant_lines to (bytes words)) ≤ length (constant_lines to words) + 2
wide_bytes to words true wide small =
    let size = below_abs (2 ^ 31) (upper_of words) small in
    let least = upper_least words in
    let eight = bytes_of words (omega (arith, size, least)) in
    let few = constants_six to (bytes words) (omega (arith, size, least, eight)) in
    let four = wide_lines 2 to words wide in
    let two = two_lines 2 to (upper_of words) (upper_large words wide) in
    omega (arith, few, four, two)
wide_bytes to words false wide also =
    let most = constants_most to (bytes words) in
    let four = wide_lines 2 to words wide in
    let six = wide_lines 1 to (upper_of words) also in
    let two = two_lines 1 to (upper_of (upper_of words)) (upper_large (upper_of words) also) in
    omega (arith, most, four, six, two)

bytes_by : (to : ℕ) (words : ℤ) (twelve narrow : Bool) → is_signed_below 2048 words ≡ twelve → is_signed_below (2 ^ 31) words ≡ narrow
    → length (constant_lines to (bytes words)) ≤ length (constant_lines to words) + 2
bytes_by to words true narrow p q = twelve_bytes to words p
bytes_by to words false true p q = narrow_bytes to words p q
bytes_by to words false false p q = wide_bytes to words (is_signed_below (2 ^ 31) (upper_of words)) q refl

-- the bytes of so many words have at most two lines more than the words
pub bytes_few : (to : ℕ) (words : ℤ) → length (constant_lines to (bytes words)) ≤ length (constant_lines to words) + 2
bytes_few to words = bytes_by to words (is_signed_below 2048 words) (is_signed_below (2 ^ 31) words) refl refl

-- those of a word behind some spill words
spot_by : (to : ℕ) (spill : ℕ) (word : ℤ) (narrow : Bool) → spill ≤ 8192 → is_signed_below (2 ^ 31) word ≡ narrow
    → length (constant_lines to (bytes (pos spill +ℤ word))) ≤ length (constant_lines to word) + 5
spot_by to spill word true small p =
    let size = below_abs (2 ^ 31) word p in
    let sum : unsigned_abs (pos spill +ℤ word) ≤ 2 ^ 31 + 8192 = omega (arith, ints, size, small) in
    let eight = bytes_of (pos spill +ℤ word) (omega (arith, sum)) in
    let few = constants_four to (bytes (pos spill +ℤ word)) (omega (arith, sum, eight)) in
    omega (arith, few)
spot_by to spill word false small p =
    let most = constants_most to (bytes (pos spill +ℤ word)) in
    let three = wide_lines 2 to word p in
    let one = some_lines 2 to (upper_of word) in
    omega (arith, most, three, one)

pub spot_few : (to : ℕ) (spill : ℕ) (word : ℤ) → spill ≤ 8192
    → length (constant_lines to (bytes (pos spill +ℤ word))) ≤ length (constant_lines to word) + 5
spot_few to spill word small = spot_by to spill word (is_signed_below (2 ^ 31) word) small refl
