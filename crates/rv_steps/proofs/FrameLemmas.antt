-- What steps and runs leave as it was, and what a step depends on.
use Rattle.std.proofs.Common.{◌≡◌, ℕ, zero, suc, ◌+◌, ◌-◌, ◌*◌, ◌<◌, ◌≤◌, inl, inr, true, List, [], ◌∷◌, length, map, Some, refl, sym, ap, ◌∙◌, arith}
use Rattle.std.proofs.Math.ListN.{get_or-map}
use Rattle.std.proofs.Math.Nat.{zero-add}
use Rattle.std.proofs.lemmas.Bool.Decides.{nat_tests}
use Rattle.std.proofs.lemmas.List.{length-map}
use Rattle.std.proofs.lemmas.List.Folds.{list_any_at}
use Rattle.std.proofs.lemmas.Option.{get_or_from_slice_get, slice_get_within}
use Rattle.std.specs.Int.{Width, byte_len, w64}
use Rattle.std.specs.List.{list_all}
use Rattle.std.specs.Prelude.{All, IsTrue, not, slice_get, slice_index, nat_lt, ◌==◌}
use Rattle.rv_line.specs.declared.line.Line.{Line}
use Rattle.rv_steps.specs.Accesses.{accesses_of, touched}
use Rattle.rv_steps.specs.Effects.{load_width, signed_value, store_width}
use Rattle.rv_steps.specs.Frames.{AgreeOn, Spares, block_after}
use Rattle.rv_steps.specs.Good.{is_kept, values_at}
use Rattle.rv_steps.specs.Kinds.{is_free, written}
use Rattle.rv_steps.specs.Machine.{Access, AccessAllowed, Config, Goes, IsAt, Loads, NoAccess, Stores, access_at, access_of, address, effect, line_step, next_step, register_at, value_at}
use Rattle.rv_steps.specs.Registers.{AgreeBut, is_among}
use Rattle.rv_steps.specs.Stops.{Reaches}
use Rattle.rv_steps.proofs.AccessLemmas.{All-back, All-front, accesses-later}
use Rattle.rv_steps.proofs.KeptLemmas.{chain-lengths}
use Rattle.rv_steps.proofs.MemoryLemmas.{kept, value-same}
use Rattle.rv_steps.proofs.RegisterLemmas.{agree-again, agree-kept, agree-more, agree-none, agree-one, and_back, and_front}
use Rattle.rv_steps.proofs.RunLemmas.{first_step, reaches_zero}
use Rattle.rv_steps.proofs.StepLemmas.{access_at-line, is_allowed-true, next_step-at_line, next_step-goes}
use Rattle.rv_steps.proofs.WrittenLemmas.{same_values}

effect-agrees : (base : ℕ) (line : Line) (c : Config) → AgreeBut (written line ∷ []) c.registers (effect base line c).registers
effect-agrees base (Line.Three code to left right) c = agree-one c.registers to _
effect-agrees base (Line.Imm code to from imm) c = agree-one c.registers to _
effect-agrees base (Line.Load code to imm pointer) c = agree-one c.registers to _
effect-agrees base (Line.Lui to imm) c = agree-one c.registers to _
effect-agrees base (Line.Auipc to imm) c = agree-one c.registers to _
effect-agrees base (Line.Jal to target) c = agree-one c.registers to _
effect-agrees base (Line.Jalr to imm pointer) c = agree-one c.registers to _
effect-agrees base line c = agree-none (0 ∷ []) c.registers

effect-block_after : (base : ℕ) (line : Line) (c : Config) → (effect base line c).block ≡ block_after base line c.registers c.block
effect-block_after base (Line.Store code from imm pointer) c = refl
effect-block_after base line c = refl

block_after-spares : (base place : ℕ) (line : Line) (registers block : List ℕ) → AccessAllowed base (length block) (access_of line registers) → Spares base place (access_of line registers) → slice_index (block_after base line registers block) place ≡ slice_index block place
block_after-spares base place (Line.Store code from imm pointer) registers block fits spares =
    let above = fits.above in
    let below = fits.below in
    kept (store_width code) block (address registers pointer imm - base) (register_at registers from) place (omega arith) (elim spares [ inl before ↦ inl (omega arith) | inr behind ↦ inr (omega arith) ])
block_after-spares base place line registers block fits spares = refl

same_line : (lines : List Line) (j k : ℕ) (one two : Line) (c : Config) → IsAt lines j one c → IsAt lines k two c → two ≡ one
same_line lines j k one two c first second =
    let same : k ≡ j = omega (arith, first.at, second.at) in
    let there = first.there in
    let here = rw same at second.there in
    cc

module _ (lines : List Line) (base k : ℕ) (c d : Config) (line : Line) (at : IsAt lines k line c) (goes : next_step lines base c ≡ Goes d) where
  made : AccessAllowed base (length c.block) (access_of line c.registers) × (d ≡ effect base line c)
  made =
      let g = next_step-goes lines base c d goes in
      let same = same_line lines k g.0 line g.1 c at g.2 in
      let is : AccessAllowed base (length c.block) (access_of g.1 c.registers) × (d ≡ effect base g.1 c) = (g.3, g.4) in
      rw same at is

  pub step-agrees : AgreeBut (written line ∷ []) c.registers d.registers
  step-agrees = rw made.1 (effect-agrees base line c)

  pub step-block : d.block ≡ block_after base line c.registers c.block
  step-block = rw made.1 (effect-block_after base line c)

  pub step-byte : (place : ℕ) → Spares base place (access_at lines c) → slice_index d.block place ≡ slice_index c.block place
  step-byte place spares =
      rw step-block (block_after-spares base place line c.registers c.block made.0 (rw (access_at-line lines base k c line at) at spares))

  module _ (block : List ℕ) (sized : length block ≡ length c.block) where
    local : (line : Line) → AccessAllowed base (length c.block) (access_of line c.registers) → AgreeOn base (access_of line c.registers) c.block block → line_step base k (Some line) c ≡ Goes d → line_step base k (Some line) (record c { block = block }) ≡ Goes (record { registers = (effect base line c).registers; pc = (effect base line c).pc; block = block_after base line c.registers block })
    local (Line.Load code to imm pointer) fits agree h =
        let above = fits.above in
        let e = value-same (load_width code) (address c.registers pointer imm - base) block c.block sized (λ place low high. sym (agree place (omega arith) (omega arith))) in
        rw (sized, is_allowed-true base (length c.block) _ _ fits, e) refl
    local (Line.Store code from imm pointer) fits agree h = rw (sized, is_allowed-true base (length c.block) _ _ fits) refl
    local Line.Ecall fits agree h = cc
    local Line.Ebreak fits agree h = cc
    local line fits agree h = refl

    pub step-local : AgreeOn base (access_at lines c) c.block block → next_step lines base (record c { block = block }) ≡ Goes (record { registers = d.registers; pc = d.pc; block = block_after base line c.registers block })
    step-local agree =
        next_step-at_line lines base k (record c { block = block }) line (record { at = at.at; there = at.there })
        ∙ rw made.1 (local line made.0 (rw (access_at-line lines base k c line at) at agree) (sym (next_step-at_line lines base k c line at) ∙ goes))

-- what a line of the program writes is among what they all write
written-among : (lines : List Line) (k : ℕ) (line : Line) → slice_get lines k ≡ Some line → is_among (written line) (map written lines) ≡ true
written-among lines k line there =
    let within = slice_get_within lines k line there in
    let is = get_or-map written lines k line ∙ ap written (get_or_from_slice_get lines k line line there) in
    list_any_at (λ s. s == written line) (map written lines) k (written line) (omega (arith, length-map lines written)) (rw is (grind (arith, nat_tests)))

touched-spares : (base place : ℕ) (access : Access) → All (Spares base place) (touched access) → Spares base place access
touched-spares base place NoAccess all = tt
touched-spares base place (Loads at size) all = tt
touched-spares base place (Stores at size) all = all 0 NoAccess (omega arith)

module _ (lines : List Line) (base : ℕ) where
  pub run-agrees : (n : ℕ) (c d : Config) → Reaches lines base n c d → AgreeBut (map written lines) c.registers d.registers
  run-agrees zero c d r = rw (reaches_zero lines base c d r) (agree-none (map written lines) d.registers)
  run-agrees (suc n) c d r =
      let s = first_step lines base n c d r in
      let g = next_step-goes lines base c s.0 s.1 in
      let among = written-among lines g.0 g.1 g.2.there in
      let one = agree-more (written g.1 ∷ []) (map written lines) c.registers s.0.registers (step-agrees lines base g.0 c s.0 g.1 g.2 s.1) (rw among refl) in
      agree-again (map written lines) c.registers s.0.registers d.registers one (run-agrees n s.0 d s.2)

  pub run-byte : (n : ℕ) (c d : Config) (place : ℕ) → Reaches lines base n c d → All (Spares base place) (accesses_of lines base n c) → slice_index d.block place ≡ slice_index c.block place
  run-byte zero c d place r all = rw (reaches_zero lines base c d r) refl
  run-byte (suc n) c d place r all =
      let s = first_step lines base n c d r in
      let g = next_step-goes lines base c s.0 s.1 in
      let both = rw (accesses-later lines base n c s.0 s.1) at all in
      let here = touched-spares base place (access_at lines c) (All-front (Spares base place) (touched (access_at lines c)) (accesses_of lines base n s.0) both) in
      run-byte n s.0 d place s.2 (All-back (Spares base place) (touched (access_at lines c)) (accesses_of lines base n s.0) both)
      ∙ step-byte lines base g.0 c s.0 g.1 g.2 s.1 place here

  pub run-value : (n : ℕ) (c d : Config) (w : Width) (place : ℕ) → Reaches lines base n c d → ((k : ℕ) → place ≤ k → k < place + byte_len w → All (Spares base k) (accesses_of lines base n c)) → value_at w d.block place ≡ value_at w c.block place
  run-value n c d w place r spares =
      value-same w place d.block c.block (chain-lengths lines base n c d r).1 (λ k low high. run-byte n c d k r (spares k low high))

  pub run-values : (n : ℕ) (c d : Config) (word count : ℕ) → Reaches lines base n c d → ((k : ℕ) → 8 * word ≤ k → k < 8 * (word + count) → All (Spares base k) (accesses_of lines base n c)) → values_at d.block word count ≡ values_at c.block word count
  run-values n c d word count r spares =
      same_values (λ i. signed_value (value_at w64 d.block (8 * (word + i)))) (λ i. signed_value (value_at w64 c.block (8 * (word + i)))) 0 count
      (λ i below. rw zero-add (ap signed_value (run-value n c d w64 (8 * (word + i)) r (λ k low high. spares k (omega arith) (omega arith)))))

free-written : (lines : List Line) → IsTrue (list_all is_free lines) → IsTrue (list_all (λ s. not (is_kept s)) (map written lines))
free-written [] free = refl
free-written (line ∷ lines) free =
    let here = and_back (nat_lt (written line) 32) _ (and_front (is_free line) _ free) in
    let rest = free-written lines (and_back (is_free line) _ free) in
    rw (here, rest) refl

pub free-keeps : (lines : List Line) (base n : ℕ) (c d : Config) (r : ℕ) → IsTrue (list_all is_free lines) → Reaches lines base n c d → IsTrue (is_kept r) → register_at d.registers r ≡ register_at c.registers r
free-keeps lines base n c d r free run kept =
    agree-kept (map written lines) c.registers d.registers r (run-agrees lines base n c d run) (free-written lines free) kept
