-- What a good text gives of arrays.
use Rattle.std.proofs.Common.{◌≡◌, ℕ, ◌≤◌, ℤ, List, ◌∙◌, length, sym, ap, subst, arith, sum_by, FitsSigned}
use Rattle.std.specs.Int.{w64}
use Rattle.std.specs.List.{All}
use Rattle.shapes_core.specs.Limits.{most_items, most_words}
use Rattle.shapes_core.specs.declared.area.Area.{Area}
use Rattle.rv_line.specs.Fits.{AreAreas}
use Rattle.rv_line.specs.Parts.{Parts, block_words}
use Rattle.rv_line.specs.Spells.{Spells}
use Rattle.rv_line.specs.declared.line.Line.{Line}
use Rattle.rv_machine.specs.Views.{end_of}
use Rattle.rv_machine.specs.declared.machine.End.{End as Answer}
use Rattle.rv_machine.specs.declared.machine.End.TheVariants as answer
use Rattle.rv_steps.specs.Good.{IsStart, Serves, input_values, output_values}
use Rattle.rv_steps.specs.GoodText.{IsGood}
use Rattle.rv_steps.specs.Machine.{Config}
use Rattle.rv_steps.specs.Stops.{Done, End, Stops, run}
use Rattle.array_run.specs.Ran.{Prints, printed_all, ran_on, run_ended}
use Rattle.array_run.specs.Starts.{base, inputs, outputs, start, start_block, words_left, zeros}
use Rattle.array_run.proofs.BlockLemmas.{AreWhole, zeros_counted}
use Rattle.array_run.proofs.HeldLemmas.{inputs_held}
use Rattle.array_run.proofs.PrintLemmas.{outputs_printed}
use Rattle.array_run.proofs.StartLemmas.{BytesLaw, is_start}

abbrev pub StopsLaw : Type 0
StopsLaw = (lines : List Line) (base budget : ℕ) (c : Config) (end : End) (d : Config) → Stops lines base budget c end d
    → run lines base budget c ≡ record { end = end; last = d }

values_held : (program : Parts) (arrays : List (List ℤ)) → AreAreas program.areas → AreWhole (inputs program.areas) arrays
    → All (All (FitsSigned w64)) arrays
    → input_values program.header program.areas (start_block program.header.spill program.areas arrays) ≡ arrays
values_held program arrays are whole fits =
    inputs_held program.header.spill 0 program.areas (zeros (sum_by words_left program.areas)) are.packed are.in_order
    (zeros program.header.spill) arrays whole fits
    (omega (arith, zeros_counted program.header.spill))

module _ (bytes_law : BytesLaw) (stops_law : StopsLaw) where
  served_prints : (program : Parts) (demand : List (List ℤ) → List (List ℤ)) (arrays : List (List ℤ))
      → input_values program.header program.areas (start_block program.header.spill program.areas arrays) ≡ arrays
      → Serves program.header program.areas program.lines demand base (start program arrays)
      → ran_on program arrays ≡ Prints (printed_all (outputs program.areas) (demand arrays))
  served_prints program demand arrays held serves =
      ap (run_ended program) (stops_law program.lines base program.header.steps (start program arrays)
      (Done serves.steps) serves.last (serves.within, serves.ends))
      ∙ ap Prints (outputs_printed program.header program.areas serves.last.block
      ∙ ap (printed_all (outputs program.areas)) (serves.outputs ∙ ap demand held))

  pub good_gives : (text : List ℕ) (areas : List Area) (demand : List (List ℤ) → List (List ℤ)) (program : Parts) (arrays : List (List ℤ))
      → IsGood text areas demand → Spells text program → length program.lines ≤ most_items
      → block_words program.header program.areas ≤ most_words
      → AreWhole (inputs program.areas) arrays → All (All (FitsSigned w64)) arrays
      → ran_on program arrays ≡ Prints (printed_all (outputs program.areas) (demand arrays))
  good_gives text areas demand program arrays good spelled few room whole fits =
      served_prints program demand arrays (values_held program arrays spelled.areas whole fits)
      (subst (λ (p : Parts).
      (base : ℕ) (c : Config) → IsStart p.header p.areas p.lines base c → Serves p.header p.areas p.lines demand base c)
      (sym (good.only program spelled)) good.serves base (start program arrays) (is_start bytes_law program arrays few room whole))

-- the end that an answer names is one of a run that is done
done_answer : (steps : ℕ) (end : Answer) → Done steps ≡ end_of end → end ≡ answer.Done steps
done_answer steps (answer.Done made) e = cc
done_answer steps (answer.Access line address) e = cc
done_answer steps (answer.OffText address) e = cc
done_answer steps (answer.Trap line) e = cc
done_answer steps answer.Budget e = cc

-- a run of a text that is good for a demand is done, within the printed steps, with the outputs that are demanded
pub good_ends : ((lines : List Line) (base budget : ℕ) (c : Config) (one other : End) (d e : Config) → Stops lines base budget c one d → Stops lines base budget c other e → (one ≡ other) × (d ≡ e))
    → (text : List ℕ) (areas : List Area) (demand : List (List ℤ) → List (List ℤ)) (program : Parts) (base : ℕ) (c last : Config) (end : Answer)
    → IsGood text areas demand → Spells text program → IsStart program.header program.areas program.lines base c
    → Stops program.lines base program.header.steps c (end_of end) last
    → (steps : ℕ) × (end ≡ answer.Done steps) × (steps ≤ program.header.steps)
    × (output_values program.header program.areas last.block ≡ demand (input_values program.header program.areas c.block))
good_ends determined text areas demand program base c last end good spelled start stops =
    let serves = subst (λ (p : Parts). (base : ℕ) (c : Config) → IsStart p.header p.areas p.lines base c → Serves p.header p.areas p.lines demand base c)
    (sym (good.only program spelled)) good.serves base c start in
    let both = determined program.lines base program.header.steps c (Done serves.steps) (end_of end) serves.last last (serves.within, serves.ends) stops in (
      serves.steps,
      done_answer serves.steps end both.0,
      serves.within,
      ap (λ (d : Config). output_values program.header program.areas d.block) (sym both.1) ∙ serves.outputs,
    )
