-- The lines of a program's nests serve its caller.
use Rattle.std.specs.Prelude.{◌≡◌, ℕ, zero, suc, ◌+◌, ◌*◌, ◌%◌, ◌^◌, ◌<◌, ◌≤◌, Bool, true, pos, All, IsOk, List, [], length, map, slice_get}
use Rattle.std.specs.Prelude.{Some, Ok, Err, Result}
use Rattle.std.specs.Int.{w64}
use Rattle.std.specs.List.{AllByRecursion, flat_map, range_with_len, sum_by, zip}
use Rattle.std.proofs.Common.{refl, ap, sym, subst, ◌∙◌, arith}
use Rattle.std.proofs.Math.Facts.{Fits-of_lt, sfits_to_z}
use Rattle.std.proofs.lemmas.Bool.{false≢true}
use Rattle.std.proofs.lemmas.Int.{fits_signed_from_abs}
use Rattle.std.proofs.lemmas.List.FromFn.{length-map-range_with_len}
use Rattle.shapes_core.specs.Limits.{most_items, most_words}
use Rattle.moa_tree.specs.Canonical.{IsBuiltItem, IsWritable}
use Rattle.moa_tree.specs.Denotation.{Store as Lists, denote_from, denote_scans_from}
use Rattle.moa_tree.specs.Expr.{Item, Tree}
use Rattle.moa_tree.specs.ShapeOf.{Shapes}
use Rattle.moa_tree.specs.declared.tree.Version.{Version}
use Rattle.shape_check.specs.Jobs.{input_count, jobs, output_count}
use Rattle.shape_check.specs.Layout.{areas, words}
use Rattle.shape_check.specs.Rules.{Failure}
use Rattle.psi_rules.specs.Areas.{input_list}
use Rattle.psi_rules.specs.Jobs.{forms}
use Rattle.psi_rules.specs.Scopes.{job_shapes}
use Rattle.loop_ir.specs.Fitting.{Fits64, HoldsFit}
use Rattle.loop_ir.specs.Running.{State, run_all}
use Rattle.loop_ir.specs.Steps.{Steps}
use Rattle.nest_build.specs.Gives.{AreLaidOut}
use Rattle.nest_jobs.specs.Leads.{Leads, area_values as job_values, nests}
use Rattle.register_map.specs.Homes.{Given}
use Rattle.rv_emit.specs.Emitting.{program}
use Rattle.rv_emit.specs.Showing.{AreTouches, HasBlock}
use Rattle.rv_emit.specs.Simulating.{AreReady, Performs, are_steady, run_each}
use Rattle.rv_line.specs.declared.assembly.Header.{Header}
use Rattle.rv_line.specs.declared.line.Line.{Line}
use Rattle.rv_steps.specs.Accesses.{accesses_of}
use Rattle.rv_steps.specs.Effects.{signed_value}
use Rattle.rv_steps.specs.Good.{IsStart, Serves, area_values, output_values, values_at}
use Rattle.rv_steps.specs.Machine.{Config, address_of, register_at, value_at}
use Rattle.rv_steps.specs.Stops.{Ends}
use Rattle.psi_compile.specs.Assigned.{AreAssigned}
use Rattle.psi_compile.specs.Demands.{denoted}
use Rattle.psi_compile.proofs.ServeAccessLemmas.{all-fine, all-touches}
use Rattle.psi_compile.proofs.ServeAreaLemmas.{area-same, areas-parts, end_of, in_areas, input-lists-long, ins, out_areas, output-lists-long}
use Rattle.psi_compile.proofs.ServeAreaLemmas.{outputs-kept, outs, placed-many, scan_areas}
use Rattle.psi_compile.proofs.ServeInputLemmas.{named_inputs}
use Rattle.psi_compile.proofs.ServeListLemmas.{each-follows, middle-mapped}
use Rattle.psi_compile.proofs.ServeNestLemmas.{AddsLow, WritesOwn, jobs-low, low-all, zip-runs}

-- ---- what is accepted and read

pub ok-shapes : (answer : Result Shapes Failure) → IsOk answer → (shapes : Shapes) × (answer ≡ Ok shapes)
ok-shapes (Ok shapes) h = (shapes, refl)
ok-shapes (Err failure) h = absurd (false≢true h)

pub all-built : (version : Version) (items : List Item) → AllByRecursion (IsWritable version) items → AllByRecursion IsBuiltItem items
all-built version items h = each-follows (IsWritable version) IsBuiltItem (λ item w. w.built) items h

-- ---- laws

-- the lines of nests that are ready do what the nests do
abbrev pub DoWhatNestsDo : Type 0
DoWhatNestsDo =
    (lines : List Line) (nests : List (Steps × Given)) (base spill : ℕ) (state : State) (c : Config)
    → base % 8 ≡ 0 → base + 8 * (spill + length state.words) ≤ 2 ^ 64 → spill ≤ most_words
    → AreReady spill nests → HoldsFit state → HasBlock base spill (length state.words) c
    → values_at c.block spill (length state.words) ≡ state.words
    → lines ≡ (program spill nests 0).lines → length lines ≤ most_items
    → c.pc ≡ address_of 0 → register_at c.registers 1 ≡ address_of (length lines)
    → AreTouches (length state.words) (run_each nests state)
    → Performs lines base spill (program spill nests 0).steps (are_steady nests) state (run_each nests state) c

-- the words of a block of bytes are below 2 ^ 64
abbrev pub HoldWords : Type 0
HoldWords = (block : List ℕ) (place : ℕ) → All (λ b. b < 256) block → value_at w64 block place < 2 ^ 64

-- ---- a start

each-range : {X : Type 0} (P : X → Type 0) (f : ℕ → X) (start count : ℕ) → ((k : ℕ) → P (f k))
    → AllByRecursion P (map f (range_with_len start count))
each-range P f start zero h = tt
each-range P f start (suc count) h = (h start, each-range P f (start + 1) count h)

word-fits : (n : ℕ) → n < 2 ^ 64 → Fits64 (signed_value n)
word-fits n h = sfits_to_z {w = w64} {n = n} (Fits-of_lt {w = w64} {n = n} h)

module _ (items : List Item) (header : Header) (lines : List Line) (base : ℕ) (c : Config) where
  -- the state whose words the block holds
  abbrev pub opening : State
  opening = record { held = λ key. pos 0; words = values_at c.block header.spill (words items); trace = [] }

  pub words-long : length opening.words ≡ words items
  words-long = length-map-range_with_len (λ k. signed_value (value_at w64 c.block (8 * (header.spill + k)))) 0 (words items)

  words-there : values_at c.block header.spill (length opening.words) ≡ opening.words
  words-there = ap (values_at c.block header.spill) words-long

  opening-fits : HoldWords → All (λ byte. byte < 256) c.block → HoldsFit opening
  opening-fits law bytes = record {
    registers = λ number. fits_signed_from_abs w64 (pos 0) (omega arith);
    words = each-range Fits64 (λ k. signed_value (value_at w64 c.block (8 * (header.spill + k)))) 0 (words items)
        (λ k. word-fits (value_at w64 c.block (8 * (header.spill + k))) (law c.block (8 * (header.spill + k)) bytes));
  }

  block-long : IsStart header (areas items) lines base c → length c.block ≡ 8 * (header.spill + length opening.words)
  block-long start = start.sized ∙ ap (λ n. 8 * (header.spill + n)) (sym words-long)

  block-there : IsStart header (areas items) lines base c → HasBlock base header.spill (length opening.words) c
  block-there start = record {
    count = start.valid.count;
    bytes = start.valid.bytes;
    sized = block-long start;
    block_at = start.block_at;
  }

  abbrev pub after_all : State
  after_all = run_all (nests items) opening

  abbrev pub inputs : Lists
  inputs = named_inputs items header c.block

  -- ---- the nests with their homes

  module _ (homes : List Given) (assigned : AreAssigned (nests items) homes) where
    abbrev pub homed : List (Steps × Given)
    homed = zip (nests items) homes

    same-after : run_each homed opening ≡ after_all
    same-after = zip-runs (nests items) homes opening assigned

    pub performed : DoWhatNestsDo → HoldWords → IsStart header (areas items) lines base c → AreLaidOut (areas items) (words items)
        → AreReady header.spill homed → header.spill ≤ 8192 → length lines ≤ 245760 → lines ≡ (program header.spill homed 0).lines
        → Leads inputs items opening after_all
        → Performs lines base header.spill (program header.spill homed 0).steps (are_steady homed) opening after_all c
    performed law words_law start laid ready small few same led =
        let touches : AreTouches (length opening.words) (run_each homed opening) =
        subst (AreTouches (length opening.words)) (sym same-after)
        (subst (λ n. AreTouches n after_all) (sym words-long) (all-touches items laid after_all led.inside)) in
        let long = block-long start in
        subst (λ s. Performs lines base header.spill (program header.spill homed 0).steps (are_steady homed) opening s c) same-after
        (law lines homed base header.spill opening c start.aligned (omega (arith, long, start.room)) (omega (arith, small)) ready
        (opening-fits words_law start.valid.bytes) (block-there start) words-there same (omega (arith, few)) start.first start.return_to
        touches)

  -- ---- what is led to

  pub nests-low : WritesOwn → AddsLow (sum_by input_count items) [] after_all.trace
  nests-low law =
      low-all law (sum_by input_count items) (areas items) (jobs items) (job_shapes items) (forms items) opening
      (jobs-low (sum_by input_count items) (sum_by input_count items) (sum_by input_count items + sum_by output_count items) 0 items
      (omega arith) (omega arith))

  outputs-hold : (last : Config) → AreLaidOut (areas items) (words items) → Leads inputs items opening after_all
      → values_at last.block header.spill (length after_all.words) ≡ after_all.words
      → output_values header (areas items) last.block ≡ map (λ output. output.1) (denote_from inputs [] items)
  outputs-hold last laid led held =
      let values = area_values header.spill last.block in
      let here : values_at last.block header.spill (words items) ≡ after_all.words =
      ap (values_at last.block header.spill) (sym (led.sized ∙ words-long)) ∙ held in
      ap (map values) (outputs-kept items)
      ∙ middle-mapped values [] (in_areas items) (out_areas items) (scan_areas items) (flat_map (input_list inputs) items)
      (map (λ output. output.1) (denote_from inputs [] items)) (denote_scans_from inputs [] items)
      (input-lists-long inputs [] items ∙ sym (placed-many 0 (ins items)))
      (output-lists-long inputs [] [] items ∙ sym (placed-many (end_of 0 (ins items)) (outs items)))
      (λ number area e.
      let there : slice_get (areas items) number ≡ Some area = ap (λ l. slice_get l number) (areas-parts items) ∙ e in
      area-same last.block header.spill (words items) area (laid.within number area there)
      ∙ ap (λ l. job_values l area) here ∙ led.holds number area there)

pub serves : (tree : Tree) (header : Header) (lines : List Line) (base most : ℕ) (steady : Bool) (c : Config)
    → IsStart header (areas tree.statements) lines base c → AreLaidOut (areas tree.statements) (words tree.statements) → header.steps ≡ most
    → Leads (inputs tree.statements header lines base c) tree.statements (opening tree.statements header lines base c)
    (after_all tree.statements header lines base c)
    → AddsLow (sum_by input_count tree.statements) [] (after_all tree.statements header lines base c).trace
    → Performs lines base header.spill most steady (opening tree.statements header lines base c)
    (after_all tree.statements header lines base c) c
    → Serves header (areas tree.statements) lines (denoted tree) base c
serves tree header lines base most steady c start laid printed led low run = record {
  steps = run.steps;
  last = run.last;
  ends = run.ends;
  within = omega (arith, run.few, printed);
  outputs = outputs-hold tree.statements header lines base c run.last laid led run.words;
  inside = all-fine header tree.statements base (accesses_of lines base run.steps c) run.touches
      (after_all tree.statements header lines base c).trace start.aligned led.inside low run.trace run.in_order;
  kept = run.kept;
}

pub exact-steps : (header : Header) (lines : List Line) (base most : ℕ) (steady : Bool) (c : Config) (before after : State)
    → header.steps ≡ most → steady ≡ true → Performs lines base header.spill most steady before after c
    → (last : Config) × Ends lines base header.steps c last
exact-steps header lines base most steady c before after printed always run =
    (run.last, subst (λ n. Ends lines base n c run.last) (run.exact always ∙ sym printed) run.ends)
