use Rattle.std.proofs.Common.{◌≡◌, ℕ, ◌+◌, ◌*◌, ◌%◌, ◌^◌, ◌<◌, ◌≤◌, Bool, true, false, not, List, [], ◌∷◌, map, ℤ, pos, refl, subst, sym, ap, ◌∙◌, arith, append-nil}
use Rattle.std.proofs.lemmas.Bool.Decides.{nat_tests}
use Rattle.std.proofs.lemmas.List.Elements.{All-cons, All-nil}
use Rattle.std.proofs.Math.Nat.{zero-add}
use Rattle.std.specs.Int.{w64}
use Rattle.std.specs.List.{range_with_len}
use Rattle.std.specs.Prelude.{All, IsTrue, if◌then◌else◌, int_lt, nat_lt}
use Rattle.rv_line.specs.declared.line.Imm.{Imm}
use Rattle.rv_line.specs.declared.line.Line.{Line}
use Rattle.rv_steps.specs.Accesses.{LeadsWithin, accesses_of}
use Rattle.rv_steps.specs.Effects.{signed_value}
use Rattle.rv_steps.specs.Good.{IsStart, Serves, input_values, is_fine_access, output_values, values_at}
use Rattle.rv_steps.specs.LoopExamples.{IsPositive, Numbers, positive_accesses, positive_areas, positive_at, positive_header, positive_lines, positive_part, positive_parts, positive_turn}
use Rattle.rv_steps.specs.Machine.{Access, Config, Goes, IsAt, Loads, Stores, address_of, next_step, register_at, value_at, with_register, with_result}
use Rattle.shapes_core.specs.declared.area.AreaKind.TheVariants.{In, Out}
use Rattle.rv_steps.proofs.loop_examples.positive_parts_are_served.Goals as goal
use Rattle.rv_steps.proofs.loop_examples.positive_parts_are_served.Goals.{After-positive_turns}

-- a word that is stored is the positive part of the one that was loaded
positive-value : (block : List ℕ) (i : ℕ) → signed_value (positive_at block i) ≡ positive_part (signed_value (value_at w64 block (8 * i)))
positive-value block i = chosen (int_lt (signed_value (value_at w64 block (8 * i))) (pos 0)) (value_at w64 block (8 * i))
  where
    chosen : (b : Bool) (w : ℕ) → signed_value (if not b then w else 0) ≡ (if b then pos 0 else signed_value w)
    chosen true w = refl
    chosen false w = refl

positive-values : (block numbers : List ℕ) → map (λ i. signed_value (positive_at block i)) numbers ≡ map positive_part (map (λ i. signed_value (value_at w64 block (8 * (0 + i)))) numbers)
positive-values block [] = refl
positive-values block (i ∷ numbers) = rw (positive-value block i, zero-add i, positive-values block numbers) refl

demanded : (n : ℕ) (before after : List ℕ) → values_at after n n ≡ map (λ i. signed_value (positive_at before i)) (range_with_len 0 n) → output_values (positive_header n) (positive_areas n) after ≡ positive_parts (input_values (positive_header n) (positive_areas n) before)
demanded n before after stored =
    let total : n * 1 ≡ n = omega arith in
    rw (total, zero-add n) (ap (λ (row : List ℤ). row ∷ []) (stored ∙ positive-values before (range_with_len 0 n)))

ended : (n : ℕ) → nat_lt n n ≡ false
ended n = grind (arith, nat_tests)

module _ (s : After-positive_turns) (n base : ℕ) (eights : base % 8 ≡ 0) where
  abbrev IsFine : Access → Type 0
  IsFine access = IsTrue (is_fine_access (positive_header n) (positive_areas n) base access)

  turn-fine : (k : ℕ) → k < n → All IsFine (positive_turn n base k)
  turn-fine k below =
      let from : 8 * (0 + 0 + k) ≡ 8 * k = omega arith in
      let to : 8 * (0 + n + k) ≡ 8 * (n + k) = omega arith in
      let load : IsFine (Loads (base + 8 * k) 8) = rw from at (s.area_words_are_fine.ensures.load (positive_header n) (positive_areas n) base 0 (record { kind = In (65 ∷ []); shape = n ∷ []; start = 0 }) k refl (omega arith) eights) in
      let store : IsFine (Stores (base + 8 * (n + k)) 8) = rw to at (s.area_words_are_fine.ensures.store (positive_header n) (positive_areas n) base 1 (record { kind = Out (67 ∷ []); shape = n ∷ []; start = n }) k refl (omega arith) eights refl) in
      All-cons IsFine (Loads (base + 8 * k) 8) (Stores (base + 8 * (n + k)) 8 ∷ []) load (All-cons IsFine (Stores (base + 8 * (n + k)) 8) [] store (All-nil IsFine))

  all-fine : All IsFine (positive_accesses n base n)
  all-fine = s.turns_are_in_order.ensures.all (is_fine_access (positive_header n) (positive_areas n) base) (positive_turn n base) n turn-fine

module _ (s : After-positive_turns) (n base : ℕ) (c : Config) (some : 1 ≤ n) (few : n ≤ 255) (start : IsStart (positive_header n) (positive_areas n) (positive_lines n) base c) where
  abbrev lines : List Line
  lines = positive_lines n

  abbrev given : Numbers
  given = record { count = n; base = base; block = c.block }

  room : base + 8 * (2 * n) ≤ 2 ^ 64
  room = let sized = start.sized in let fits = start.room in omega arith

  -- the lines before the loop
  set : (d : Config) × LeadsWithin lines base 3 c d [] × IsPositive given 0 d []
  set =
      let any = s.registers_are_kept.ensures.any in
      let len = s.registers_are_kept.ensures.len in
      let goes = s.lines_take_steps.ensures.line in
      let line = s.runs_lead_within.ensures.line in
      let regs = start.valid.count in
      let pc = start.first in
      let r10 = start.block_at in
      let least = room in
      let same : (base + 0) % 2 ^ 64 ≡ base = omega arith in
      let end : (base + 8 * n) % 2 ^ 64 ≡ base + 8 * n = omega arith in
      let again : (base + 8 * n + 0) % 2 ^ 64 ≡ base + 8 * n = omega arith in
      let at0 : IsAt lines 0 (Line.Imm Imm.Addi 5 10 (pos 0)) c = record { at = pc; there = refl } in
      let c1 = with_result c 5 base in
      let s0 : next_step lines base c ≡ Goes c1 = simp (r10, same) at (goes lines base 0 c _ at0) in
      let at1 : IsAt lines 1 (Line.Imm Imm.Addi 6 10 (pos (8 * n))) c1 = record { at = omega (arith, pc); there = refl } in
      let c2 = with_result c1 6 (base + 8 * n) in
      let s1 : next_step lines base c1 ≡ Goes c2 = simp (any, regs, r10, end) at (goes lines base 1 c1 _ at1) in
      let at2 : IsAt lines 2 (Line.Imm Imm.Addi 7 6 (pos 0)) c2 = record { at = omega (arith, pc); there = refl } in
      let c3 = with_result c2 7 (base + 8 * n) in
      let s2 : next_step lines base c2 ≡ Goes c3 = simp (any, len, regs, again) at (goes lines base 2 c2 _ at2) in
      let less : nat_lt 0 n ≡ true = grind (arith, nat_tests) in
      let r5 : register_at c3.registers 5 ≡ base = simp (any, len, regs) in
      let r6 : register_at c3.registers 6 ≡ base + 8 * n = simp (any, len, regs) in (
        c3,
        line lines base 0 2 _ c c1 c3 _ at0 s0 (line lines base 1 1 _ c1 c2 c3 _ at1 s1 (line lines base 2 0 _ c2 c3 c3 _ at2 s2 (s.runs_lead_within.ensures.none lines base c3))),
        record {
          at = rw less (omega (arith, pc));
          count = simp (len, regs);
          from = omega (arith, r5);
          to = omega (arith, r6);
          end = simp (any, len, regs);
          sized = start.sized ∙ omega arith;
          stored = s.words_are_written.ensures.none n (positive_at c.block) c.block;
          touched = refl;
        },
      )

  looped : (d : Config) × (accesses : List Access) × LeadsWithin lines base (n * 7) set.0 d accesses × IsPositive given n d accesses
  looped =
      s.turns_lead.ensures.within given lines base 7 n set.0
      (λ k d before below now.
      let made = s.positive_turns.ensures.turn given k d before start.aligned room start.valid.bytes below now in
      (made.0, positive_turn n base k, made.1, made.2))
      set.2

  serves : (run : Serves (positive_header n) (positive_areas n) lines positive_parts base c) × (accesses_of lines base run.steps c ≡ positive_accesses n base n)
  serves =
      let more = s.runs_lead_within.ensures.steps in
      let d = looped.0 in
      let now = looped.3 in
      let to_return = more lines base 3 (n * 7) c set.0 d [] looped.1 set.1 looped.2 in
      let keeps = λ (steps : ℕ) (last : Config) (r : ℕ). s.free_lines_keep.ensures.kept lines base steps c last r refl in
      let r1 : register_at d.registers 1 ≡ address_of 11 = keeps to_return.steps d 1 to_return.leads.reaches refl ∙ start.return_to in
      let at : IsAt lines 10 (Line.Jalr 0 (pos 0) 1) d = record { at = now.at ∙ rw (ended n) refl; there = refl } in
      let e : Config = record { registers = with_register d.registers 0 (d.pc + 4); pc = address_of 11; block = d.block } in
      let goes : next_step lines base d ≡ Goes e = s.lines_take_steps.ensures.line lines base 10 d _ at ∙ rw r1 refl in
      let return = s.runs_lead_within.ensures.line lines base 10 0 _ d e e [] at goes (s.runs_lead_within.ensures.none lines base e) in
      let chain = more lines base (3 + n * 7) 1 c d e looped.1 [] to_return return in
      let whole : LeadsWithin lines base (3 + n * 7 + 1) c e (positive_accesses n base n) = rw (append-nil looped.1, now.touched) at chain in
      let in_order = whole.leads.in_order in (
        record {
          steps = whole.steps;
          last = e;
          ends = record { reaches = whole.leads.reaches; at_end = refl };
          within = omega (arith, whole.few);
          outputs = demanded n c.block d.block (s.words_are_written.ensures.values n n (positive_at c.block) c.block d.block now.stored);
          inside = subst (λ accesses. All (IsFine s n base start.aligned) accesses) (sym in_order) (all-fine s n base start.aligned);
          kept = λ r h. keeps whole.steps e r whole.leads.reaches h;
        },
        in_order,
      )

pub returns : goal.returns
returns s = record { serves = serves s }
