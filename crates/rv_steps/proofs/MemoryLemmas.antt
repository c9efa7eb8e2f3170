-- Registers and the bytes of a block, after a write.
use Rattle.std.proofs.Common.{◌≡◌, ◌≢◌, ℕ, zero, suc, ◌+◌, ◌-◌, ◌*◌, ◌/◌, ◌^◌, ◌<◌, ◌≤◌, ◌⊎◌, inl, inr, List, ◌++◌, length, get_or, take, drop, refl, sym, ap, ◌∙◌, arith, length-append, length-take, length-drop, append_assoc, get_or-set_same, get_or-set_other, get_or-take, get_or-drop}
use Rattle.std.proofs.lemmas.List.{length-set, take_at, drop_at, ext_get_or, get_or_append_left, get_or-append_right, length-take-le}
use Rattle.std.proofs.lemmas.List.{get_or_past, set_past}
use Rattle.std.proofs.lemmas.Bool.Decides.{nat_tests}
use Rattle.std.proofs.lemmas.List.Elements.{All-append, All-take, All-drop, All-cons, All-nil, All-set}
use Rattle.std.proofs.lemmas.Bool.{cases_lt}
use Rattle.std.proofs.Math.Nat.{pow-suc, mul-le-mul_right, mod-lt}
use Rattle.std.specs.List.{All}
use mir.Val.{bits}
use Rattle.std.proofs.lemmas.Nat.{from_le_bytes-to_le_bytes_8}
use Rattle.std.specs.Prelude.{slice_index, if◌then◌else◌, ◌&&◌, ◌==◌, nat_lt}
use Rattle.std.specs.Int.{Width, w8, w16, w32, w64, w128, byte_len, bytes_low_first, byte_at, byte_worth, sum_through, to_le_bytes, from_le_bytes}
use Rattle.rv_steps.specs.Machine.{register_at, with_register, value_at, with_value}

-- an element, or 0 past the end
pub each_below : (bound : ℕ) (xs : List ℕ) → 0 < bound → All (λ b. b < bound) xs → (k : ℕ) → get_or xs k 0 < bound
each_below bound xs above small k =
    elim (cases_lt k (length xs)) [ inl below ↦ small k 0 below | inr past ↦ rw (get_or_past xs k 0 past) above ]

-- ---- registers

pub length-with_register : (registers : List ℕ) (r value : ℕ) → length (with_register registers r value) ≡ length registers
unfolding with_register
length-with_register registers zero value = refl
length-with_register registers (suc r) value = length-set registers (suc r) value

pub register_at-zero : (registers : List ℕ) → register_at registers 0 ≡ 0
unfolding register_at
register_at-zero registers = refl

pub register_at-with_register_same : (registers : List ℕ) (r value : ℕ) → 0 < r → r < length registers → register_at (with_register registers r value) r ≡ value
unfolding register_at with_register
register_at-with_register_same registers zero value above below = absurd (omega arith)
register_at-with_register_same registers (suc r) value above below = get_or-set_same registers (suc r) value 0 below

pub register_at-with_register_other : (registers : List ℕ) (r value other : ℕ) → other ≢ r → register_at (with_register registers r value) other ≡ register_at registers other
unfolding register_at with_register
register_at-with_register_other registers zero value other ne = refl
register_at-with_register_other registers (suc r) value zero ne = refl
register_at-with_register_other registers (suc r) value (suc other) ne = get_or-set_other registers (suc r) (suc other) value 0 ne

-- without a condition: it computes where r, other and the length are numerals
pub register_at-with_register : (registers : List ℕ) (r value other : ℕ) → register_at (with_register registers r value) other ≡ (if nat_lt 0 r && (nat_lt r (length registers) && (other == r)) then value else register_at registers other)
unfolding register_at with_register
register_at-with_register registers zero value zero = refl
register_at-with_register registers zero value (suc other) = refl
register_at-with_register registers (suc r) value zero = grind (arith, nat_tests)
register_at-with_register registers (suc r) value (suc other) =
    let same = get_or-set_same registers (suc r) value 0 in
    let apart = get_or-set_other registers (suc r) (suc other) value 0 in
    let past = set_past registers (suc r) value in
    grind (arith, nat_tests)

pub register_at-below : (registers : List ℕ) (r : ℕ) → All (λ value. value < 2 ^ 64) registers → register_at registers r < 2 ^ 64
unfolding register_at
register_at-below registers zero small = omega arith
register_at-below registers (suc r) small = each_below (2 ^ 64) registers (omega arith) small (suc r)

pub with_register-words : (registers : List ℕ) (r value : ℕ) → value < 2 ^ 64 → All (λ value. value < 2 ^ 64) registers → All (λ value. value < 2 ^ 64) (with_register registers r value)
unfolding with_register
with_register-words registers zero value fits small = small
with_register-words registers (suc r) value fits small = All-set (λ value. value < 2 ^ 64) registers (suc r) value fits small

-- ---- bytes

length-bytes : (i k n : ℕ) → length (bytes_low_first i k n) ≡ k
length-bytes i zero n = refl
length-bytes i (suc k) n = ap suc (length-bytes (suc i) k n)

length-to_le_bytes : (w : Width) (n : ℕ) → length (to_le_bytes w n) ≡ byte_len w
length-to_le_bytes w n = length-bytes 0 (byte_len w) n

module _ (w : Width) (block : List ℕ) (place value : ℕ) (inside : place + byte_len w ≤ length block) where
  front : length (take place block) ≡ place
  front = length-take-le place block (omega arith)

  pub length-with_value : length (with_value w block place value) ≡ length block
  unfolding with_value
  length-with_value = omega (arith, length-append (take place block ++ to_le_bytes w value) (drop (place + byte_len w) block), length-append (take place block) (to_le_bytes w value), front, length-to_le_bytes w value, length-drop (place + byte_len w) block)

  pub below-with_value : (k : ℕ) → k < place → slice_index (with_value w block place value) k ≡ slice_index block k
  unfolding with_value
  below-with_value k below =
      get_or_append_left (take place block ++ to_le_bytes w value) _ 0 k (omega (arith, length-append (take place block) (to_le_bytes w value), front))
      ∙ get_or_append_left (take place block) _ 0 k (omega (arith, front))
      ∙ get_or-take place block k 0 below

  pub above-with_value : (k : ℕ) → place + byte_len w ≤ k → slice_index (with_value w block place value) k ≡ slice_index block k
  unfolding with_value
  above-with_value k above =
      get_or-append_right (take place block ++ to_le_bytes w value) (drop (place + byte_len w) block) (place + byte_len w) k 0 (omega (arith, length-append (take place block) (to_le_bytes w value), front, length-to_le_bytes w value)) above
      ∙ get_or-drop (place + byte_len w) block (k - (place + byte_len w)) 0
      ∙ ap (λ (i : ℕ). get_or block i 0) (omega arith)

  pub bytes-with_value : take (byte_len w) (drop place (with_value w block place value)) ≡ to_le_bytes w value
  unfolding with_value
  bytes-with_value =
      let joined = append_assoc (take place block) (to_le_bytes w value) (drop (place + byte_len w) block) in
      ap (λ (xs : List ℕ). take (byte_len w) (drop place xs)) joined
      ∙ ap (λ (xs : List ℕ). take (byte_len w) xs) (drop_at (take place block) (to_le_bytes w value ++ drop (place + byte_len w) block) place front)
      ∙ take_at (to_le_bytes w value) (drop (place + byte_len w) block) (byte_len w) (length-to_le_bytes w value)

-- a value is that of its bytes
value_at-is : (w : Width) (block : List ℕ) (place : ℕ) → value_at w block place ≡ from_le_bytes w (take (byte_len w) (drop place block))
unfolding value_at
value_at-is w block place = let n : place + byte_len w - place ≡ byte_len w = omega arith in rw n refl

pub word_again : (block : List ℕ) (place value : ℕ) → place + 8 ≤ length block → value < 2 ^ 64 → value_at w64 (with_value w64 block place value) place ≡ value
word_again block place value inside small =
    value_at-is w64 (with_value w64 block place value) place
    ∙ ap (λ (xs : List ℕ). from_le_bytes w64 xs) (bytes-with_value w64 block place value inside)
    ∙ from_le_bytes-to_le_bytes_8 value small

-- a byte that was not written, at either side
pub kept : (w : Width) (block : List ℕ) (place value k : ℕ) → place + byte_len w ≤ length block → (k < place) ⊎ (place + byte_len w ≤ k) → slice_index (with_value w block place value) k ≡ slice_index block k
kept w block place value k inside apart =
    elim apart [ inl below ↦ below-with_value w block place value inside k below | inr above ↦ above-with_value w block place value inside k above ]

-- the bytes from a place on, where two blocks have the same ones
same_bytes : (n at : ℕ) (xs ys : List ℕ) → length xs ≡ length ys → ((k : ℕ) → at ≤ k → k < at + n → slice_index xs k ≡ slice_index ys k) → take n (drop at xs) ≡ take n (drop at ys)
same_bytes n at xs ys long same =
    ext_get_or 0 (take n (drop at xs)) (take n (drop at ys)) (omega (arith, length-take n (drop at xs), length-take n (drop at ys), length-drop at xs, length-drop at ys))
    (λ k below.
    let inside : k < n = omega (arith, length-take n (drop at xs)) in
    get_or-take n (drop at xs) k 0 inside ∙ get_or-drop at xs k 0 ∙ same (at + k) (omega arith) (omega arith) ∙ sym (get_or-drop at ys k 0) ∙ sym (get_or-take n (drop at ys) k 0 inside))

-- a value of the same bytes
pub value-same : (w : Width) (place : ℕ) (xs ys : List ℕ) → length xs ≡ length ys → ((k : ℕ) → place ≤ k → k < place + byte_len w → slice_index xs k ≡ slice_index ys k) → value_at w xs place ≡ value_at w ys place
value-same w place xs ys long same =
    value_at-is w xs place ∙ ap (λ (bytes : List ℕ). from_le_bytes w bytes) (same_bytes (byte_len w) place xs ys long same) ∙ sym (value_at-is w ys place)

pub value_elsewhere : (w u : Width) (block : List ℕ) (place value other : ℕ) → place + byte_len w ≤ length block → (other + byte_len u ≤ place) ⊎ (place + byte_len w ≤ other) → value_at u (with_value w block place value) other ≡ value_at u block other
value_elsewhere w u block place value other inside apart =
    value-same u other (with_value w block place value) block (length-with_value w block place value inside)
    (λ k low high. kept w block place value k inside (elim apart [ inl below ↦ inl (omega arith) | inr above ↦ inr (omega arith) ]))

-- words at multiples of 8
pub word_elsewhere : (block : List ℕ) (i j value : ℕ) → 8 * i + 8 ≤ length block → i ≢ j → value_at w64 (with_value w64 block (8 * i) value) (8 * j) ≡ value_at w64 block (8 * j)
word_elsewhere block i j value inside apart =
    value_elsewhere w64 w64 block (8 * i) value (8 * j) inside (grind arith)

-- ---- bytes stay bytes, and words are below 2 ^ 64

sum-below : (f : ℕ → ℕ) → ((i : ℕ) → f i < 256) → (k : ℕ) → sum_through (λ i. byte_worth i (f i)) k < 256 ^ suc k
sum-below f small zero = let s = small 0 in omega arith
sum-below f small (suc k) =
    let before = sum-below f small k in
    let digit : f (suc k) ≤ 255 = omega (arith, small (suc k)) in
    let worth : f (suc k) * 256 ^ suc k ≤ 255 * 256 ^ suc k = mul-le-mul_right (256 ^ suc k) digit in
    let power : 256 ^ suc (suc k) ≡ 256 ^ suc k * 256 = pow-suc 256 (suc k) in
    omega arith

whole-below : (w : Width) (f : ℕ → ℕ) → ((i : ℕ) → f i < 256) → sum_through (λ i. byte_worth i (f i)) (byte_len w - 1) < 2 ^ bits w
whole-below w8 f small = sum-below f small 0
whole-below w16 f small = sum-below f small 1
whole-below w32 f small = sum-below f small 3
whole-below w64 f small = sum-below f small 7
whole-below w128 f small = sum-below f small 15

pub value-below : (w : Width) (block : List ℕ) (place : ℕ) → All (λ b. b < 256) block → value_at w block place < 2 ^ bits w
value-below w block place small =
    rw (value_at-is w block place) (whole-below w (λ i. get_or (take (byte_len w) (drop place block)) i 0)
    (each_below 256 (take (byte_len w) (drop place block)) (omega arith) (All-take (λ b. b < 256) (byte_len w) (drop place block) (All-drop (λ b. b < 256) place block small))))

byte_at-small : (i n : ℕ) → byte_at i n < 256
byte_at-small zero n = mod-lt n (omega arith)
byte_at-small (suc i) n = mod-lt (n / 256 ^ suc i) (omega arith)

bytes-small : (i k n : ℕ) → All (λ b. b < 256) (bytes_low_first i k n)
bytes-small i zero n = All-nil (λ b. b < 256)
bytes-small i (suc k) n = All-cons (λ b. b < 256) (byte_at i n) (bytes_low_first (suc i) k n) (byte_at-small i n) (bytes-small (suc i) k n)

pub bytes_stay : (w : Width) (block : List ℕ) (place value : ℕ) → All (λ b. b < 256) block → All (λ b. b < 256) (with_value w block place value)
unfolding with_value
bytes_stay w block place value small =
    All-append (λ b. b < 256) (take place block ++ to_le_bytes w value) (drop (place + byte_len w) block)
    (All-append (λ b. b < 256) (take place block) (to_le_bytes w value) (All-take (λ b. b < 256) place block small) (bytes-small 0 (byte_len w) value))
    (All-drop (λ b. b < 256) (place + byte_len w) block small)
