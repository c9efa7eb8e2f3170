-- The worked example of a program that serves its caller, and its near misses.
use Rattle.std.proofs.Common.{◌≡◌, ◌≢◌, ℕ, ◌+◌, ◌-◌, ◌%◌, ◌^◌, ◌<◌, ◌≤◌, ◌∷◌, ◌++◌, length, replicate, refl, sym, ap, ◌∙◌, arith, lit<}
use Rattle.std.proofs.lemmas.Bool.Decides.{nat_tests}
use Rattle.std.proofs.lemmas.List.Elements.{All-append, All-cons, All-nil, All-replicate, All-set}
use Rattle.std.specs.Prelude.{All, IsTrue, [], slice_set}
use Rattle.rv_steps.specs.Accesses.{accesses_of}
use Rattle.rv_steps.specs.Good.{IsStart, Serves, is_fine_access, is_kept}
use Rattle.rv_steps.specs.GoodExamples.{copied, copy_areas, copy_lines, header_of, start_at}
use Rattle.rv_steps.specs.Machine.{Access, Config, IsValid, Loads, Stores, address_of, is_allowed, line_at, next_step, number_at, register_at, value_at, with_register, with_value}
use Rattle.rv_steps.specs.Stops.{Ends, config_after}
use Rattle.rv_steps.proofs.MemoryLemmas.{register_at-with_register_other}
use Rattle.rv_steps.proofs.RunLemmas.{ends_once}

start-valid : (base : ℕ) → base < 2 ^ 64 → IsValid (start_at base)
start-valid base small =
    record {
      count = refl;
      words = All-set (λ value. value < 2 ^ 64) (slice_set (replicate 32 0) 1 (address_of 2)) 10 base small
          (All-set (λ value. value < 2 ^ 64) (replicate 32 0) 1 (address_of 2) (lit< tt) (All-replicate (λ value. value < 2 ^ 64) 32 0 (lit< tt)));
      bytes = All-append (λ byte. byte < 256) (replicate 8 0) (7 ∷ replicate 15 0) (All-replicate (λ byte. byte < 256) 8 0 (lit< tt))
          (All-cons (λ byte. byte < 256) 7 (replicate 15 0) (lit< tt) (All-replicate (λ byte. byte < 256) 15 0 (lit< tt)));
    }

block-at : (base : ℕ) → register_at (start_at base).registers 10 ≡ base
unfolding register_at
block-at base = refl

return-to : (base : ℕ) → register_at (start_at base).registers 1 ≡ address_of 2
unfolding register_at
return-to base = refl

pub starts : (base through : ℕ) → base % 8 ≡ 0 → base + 24 ≤ 2 ^ 64 → IsStart (header_of 2) copy_areas (copy_lines through) base (start_at base)
starts base through eights room =
    record {
      valid = start-valid base (omega arith);
      aligned = eights;
      room = room;
      sized = refl;
      first = refl;
      block_at = block-at base;
      return_to = return-to base;
    }

pub too-far : (c : Config) → IsStart (header_of 2) copy_areas (copy_lines 5) (2 ^ 64 - 16) c → ⊥
too-far c start = let room = start.room in let sized : length c.block ≡ 24 = start.sized in absurd (omega arith)

-- after both lines, where the input's word went through a register
last : ℕ → Config
last through = record {
  registers = with_register (start_at 4096).registers through 7;
  pc = address_of 2;
  block = replicate 8 0 ++ (7 ∷ replicate 7 0) ++ 7 ∷ replicate 7 0;
}

ends-5 : Ends (copy_lines 5) 4096 2 (start_at 4096) (last 5)
unfolding last register_at with_register value_at with_value number_at line_at is_allowed next_step config_after
ends-5 = record { reaches = record { reached = refl }; at_end = refl }

ends-18 : Ends (copy_lines 18) 4096 2 (start_at 4096) (last 18)
unfolding last register_at with_register value_at with_value number_at line_at is_allowed next_step config_after
ends-18 = record { reaches = record { reached = refl }; at_end = refl }

abbrev IsFine : Access → Type 0
IsFine access = IsTrue (is_fine_access (header_of 2) copy_areas 4096 access)

one-of-each : accesses_of (copy_lines 5) 4096 2 (start_at 4096) ≡ Loads 4104 8 ∷ Stores 4112 8 ∷ []
unfolding register_at with_register value_at with_value number_at line_at is_allowed next_step accesses_of
one-of-each = refl

all-fine : All IsFine (accesses_of (copy_lines 5) 4096 2 (start_at 4096))
all-fine = rw one-of-each (All-cons IsFine (Loads 4104 8) (Stores 4112 8 ∷ []) refl (All-cons IsFine (Stores 4112 8) [] refl (All-nil IsFine)))

kept-apart : (r : ℕ) → IsTrue (is_kept r) → r ≢ 5
kept-apart r h = grind (arith, nat_tests)

pub copy-serves : Serves (header_of 2) copy_areas (copy_lines 5) copied 4096 (start_at 4096)
unfolding last value_at
copy-serves =
    record {
      steps = 2;
      last = last 5;
      ends = ends-5;
      within = omega arith;
      outputs = refl;
      inside = all-fine;
      kept = λ r h. register_at-with_register_other (start_at 4096).registers 5 7 r (kept-apart r h);
    }

pub too-slow : Serves (header_of 1) copy_areas (copy_lines 5) copied 4096 (start_at 4096) → ⊥
too-slow s =
    let same = ends_once (copy_lines 5) 4096 2 s.steps (start_at 4096) (last 5) s.last ends-5 s.ends in
    let steps = same.0 in
    let within = s.within in
    absurd (omega arith)

saved-changes : register_at (last 18).registers 18 ≡ 7
unfolding last register_at with_register
saved-changes = refl

saved-was : register_at (start_at 4096).registers 18 ≡ 0
unfolding register_at
saved-was = refl

pub not-given-back : Serves (header_of 2) copy_areas (copy_lines 18) copied 4096 (start_at 4096) → ⊥
not-given-back s =
    let same = ends_once (copy_lines 18) 4096 2 s.steps (start_at 4096) (last 18) s.last ends-18 s.ends in
    let e : ◌≡◌ {A = ℕ} 7 0 = sym saved-changes ∙ ap (λ (d : Config). register_at d.registers 18) same.1 ∙ s.kept 18 refl ∙ saved-was in
    absurd (omega arith)
