-- Both texts of the small program spell it, and the first does not spell it with an instruction on another line.
use Rattle.std.proofs.Common.{◌≡◌, ℕ, List, [], ◌∷◌, ◌++◌, get_or, refl, sym, ap, arith, rules}
use Rattle.std.specs.Prelude.{◌≢◌, AllPairs, codes, map}
use Rattle.std.specs.Fmt.{digits}
use Rattle.std.specs.Str.Lines.{lines}
use Rattle.std.proofs.lemmas.List.{append-nil}
use Rattle.rv_line.specs.Emitted.{register_text}
use Rattle.rv_line.specs.SpellingExamples.{small_text, small_parts, loose_text}
use Rattle.rv_line.specs.Fits.{AreAreas, FitLines}
use Rattle.rv_line.specs.Instructions.{Takes}
use Rattle.rv_line.specs.Numbers.{IsNumber}
use Rattle.rv_line.specs.Parts.{Parts}
use Rattle.rv_line.specs.Spells.{Spells, SpellLines, EndsRows}
use Rattle.rv_line.specs.Spells.SaysNothing.{empty, global}
use Rattle.rv_line.specs.Spells.SpellLines.{end, skip, label, instruction}
use Rattle.rv_line.proofs.BodyLemmas.{Says-itself}
use Rattle.rv_line.proofs.InstructionLemmas.{Takes-two}
use Rattle.rv_line.proofs.UniqueLemmas.{one_program}

areas_are : AreAreas (small_parts []).areas
areas_are = record { each = (record { named = refl; shaped = refl }, tt); in_order = tt; differ = λ i j d below within. absurd (omega arith); packed = (refl, tt) }

lines_are : FitLines 2 0 (small_parts []).lines
lines_are = (
  record { to = omega arith; imm = omega arith },
  (record { operand = omega arith; base = omega arith; imm = record { low = search rules; high = search rules } }, tt),
)

-- a text spells the small program if its body does, whatever the number of its steps and the offset of its area look like
small_spells : (text steps offset : List ℕ) (body : List (List ℕ)) (labels : List (List ℕ × ℕ)) (places : List ℕ) →
    lines text ≡ codes "# psi 1" ∷ (codes "# steps " ++ steps) ∷ codes "# spill 0" ∷ (codes "# out C " ++ offset) ∷ body →
    IsNumber steps 2 → IsNumber offset 0 → EndsRows body → SpellLines labels body 5 0 (small_parts places).lines places labels →
    AllPairs (λ one other. one ≢ other) (map (λ label. label.0) labels) → Spells text (small_parts places)
small_spells text steps offset body labels places split steps_is offset_is ends body_is differ = record {
  steps = steps;
  spill = codes "0";
  rows = (codes "# out C " ++ offset) ∷ [];
  body = body;
  labels = labels;
  split = split;
  steps_number = steps_is;
  steps_small = omega arith;
  spill_number = record { digits = search rules; value = refl };
  spill_small = omega arith;
  rows_spell = (
    record {
      front = codes "# out C";
      offset = offset;
      extents = [];
      spelled = ap (λ text. codes "# out C " ++ text) (sym (append-nil offset));
      kind = refl;
      begins = offset_is;
      shape = tt;
    },
    tt,
  );
  rows_end = ends;
  areas = areas_are;
  body_spells = body_is;
  labels_differ = differ;
  lines_fit = lines_are;
}

lui_spelled : Takes (codes "lui x5, 524288") (codes "lui") (register_text 5 ∷ codes "524288" ∷ [])
unfolding digits
lui_spelled = Takes-two (codes "lui") (register_text 5) (codes "524288")

sd_spelled : Takes (codes "sd x5, 0(x10)") (codes "sd") (register_text 5 ∷ (codes "0" ++ (codes "(" ++ (register_text 10 ++ codes ")"))) ∷ [])
unfolding digits
sd_spelled = Takes-two (codes "sd") (register_text 5) (codes "0(x10)")

pub small_spelled : Spells small_text (small_parts (5 ∷ 6 ∷ []))
small_spelled =
    small_spells small_text (codes "2") (codes "0") (codes "lui x5, 524288" ∷ codes "sd x5, 0(x10)" ∷ []) [] (5 ∷ 6 ∷ []) refl
    (record { digits = search rules; value = refl })
    (record { digits = search rules; value = refl })
    refl
    (
    instruction (codes "lui x5, 524288") (Says-itself [] (codes "lui x5, 524288") refl) (
    record { digits = codes "524288"; number = record { digits = search rules; value = refl }; takes = lui_spelled }
    ) (
    instruction (codes "sd x5, 0(x10)") (Says-itself [] (codes "sd x5, 0(x10)") refl) (
    record { offset = codes "0"; number = record { digits = search rules; value = refl }; takes = sd_spelled }
    ) end
    )
    )
    (λ i j d below within. absurd (omega arith))

loose_lui : Takes (codes "lui\tx5 ,0524288") (codes "lui") (register_text 5 ∷ codes "0524288" ∷ [])
unfolding digits
loose_lui = record {
  gap = 9 ∷ [];
  rest = codes "x5 ,0524288";
  spelled = refl;
  apart = refl;
  some = omega arith;
  separated = (32 ∷ [], [], codes "0524288", refl, refl, refl, refl);
}

loose_sd : Takes (codes "sd x5, -0(x10)") (codes "sd") (register_text 5 ∷ (codes "-0" ++ (codes "(" ++ (register_text 10 ++ codes ")"))) ∷ [])
unfolding digits
loose_sd = Takes-two (codes "sd") (register_text 5) (codes "-0(x10)")

pub loose_spelled : Spells loose_text (small_parts (9 ∷ 10 ∷ []))
loose_spelled =
    small_spells loose_text (codes "02") (codes "00")
    (codes "# the program" ∷ codes "\tstart: # here" ∷ [] ∷ codes " .globl  gone" ∷ codes "\tlui\tx5 ,0524288#" ∷ codes "sd x5, -0(x10) " ∷ [])
    ((codes "start", 0) ∷ [])
    (9 ∷ 10 ∷ [])
    refl
    (record { digits = search rules; value = refl })
    (record { digits = search rules; value = refl })
    refl
    (
    skip (empty (record { lead = []; trail = []; comment = codes "# the program"; spelled = refl; before = refl; behind = refl; ended = refl })) (
    label (codes "start") (record { lead = 9 ∷ []; trail = 32 ∷ []; comment = codes "# here"; spelled = refl; before = refl; behind = refl; ended = refl }) refl (
    skip (empty (Says-itself [] [] refl)) (
    skip (global (codes ".globl  gone") (Says-itself (32 ∷ []) (codes ".globl  gone") refl) (
    record { gap = 32 ∷ 32 ∷ []; name = codes "gone"; spelled = refl; apart = refl; some = omega arith; label = refl }
    )) (
    instruction (codes "lui\tx5 ,0524288") (record { lead = 9 ∷ []; trail = []; comment = codes "#"; spelled = refl; before = refl; behind = refl; ended = refl }) (
    record { digits = codes "0524288"; number = record { digits = search rules; value = refl }; takes = loose_lui }
    ) (
    instruction (codes "sd x5, -0(x10)") (record { lead = []; trail = 32 ∷ []; comment = []; spelled = refl; before = refl; behind = refl; ended = tt }) (
    record { offset = codes "-0"; number = record { digits = search rules; value = refl }; takes = loose_sd }
    ) end
    )
    )
    )
    )
    )
    )
    (λ i j d below within. absurd (omega arith))

-- the second instruction stands on another line
pub misplaced_refused : Spells small_text (small_parts (5 ∷ 7 ∷ [])) → ⊥
misplaced_refused spells =
    let same = one_program small_text _ _ small_spelled spells in
    let place : ◌≡◌ {A = ℕ} 6 7 = ap (λ (parts : Parts). get_or parts.places 1 0) same in
    omega arith
