-- Ways from one configuration to another that do what steps do, and how they follow one another.
use Rattle.std.specs.Prelude.{◌≡◌, ◌≢◌, All, ℕ, ◌+◌, ◌<◌, ◌≤◌, Bool, true, false, not, List, [], ◌∷◌, ◌++◌, length, map, reverse}
use Rattle.std.proofs.Common.{refl, ap, ap₂, sym, subst, ◌∙◌, append_assoc, arith, length-append}
use Rattle.std.proofs.lemmas.Bool.{false≢true}
use Rattle.std.proofs.lemmas.Bool.Decides.{nat_tests}
use Rattle.std.proofs.lemmas.List.{map-append, reverse-append}
use Rattle.std.proofs.lemmas.List.Elements.{filter-append}
use Rattle.loop_ir.specs.Needed.{Keys}
use Rattle.loop_ir.specs.Running.{Access as Touch, Key, Register, State}
use Rattle.register_map.specs.declared.home.Home.{Home}
use Rattle.register_map.specs.declared.home.Home.TheVariants as home
use Rattle.register_map.specs.Homes.{IsHome, is_given}
use Rattle.rv_line.specs.declared.line.Line.{Line}
use Rattle.rv_steps.specs.Accesses.{Leads}
use Rattle.rv_steps.specs.Machine.{Access, Config, address_of, register_at}
use Rattle.rv_steps.specs.Registers.{AgreeBut, is_among}
use Rattle.rv_emit.specs.Emitting.{Piece, Plan}
use Rattle.rv_emit.specs.Handling.{Runs}
use Rattle.rv_emit.specs.MachineLaws.{MachineLaws}
use Rattle.rv_emit.specs.Moving.{register_of}
use Rattle.rv_emit.specs.Showing.{AreInOrder, HasBlock, Shows, held_in, is_spill, access_of as access_for}
use Rattle.rv_emit.specs.Simulating.{Simulates}
use Rattle.rv_emit.specs.Walks.{Owed}

-- ---- how many lines three pieces have, and four

pub length-of-three : (a b c : List Line) → length (a ++ (b ++ c)) ≡ length a + (length b + length c)
length-of-three a b c = length-append a (b ++ c) ∙ ap (λ n. length a + n) (length-append b c)

pub length-of-four : (a b c d : List Line) → length (a ++ (b ++ (c ++ d))) ≡ length a + (length b + (length c + length d))
length-of-four a b c d = length-append a (b ++ (c ++ d)) ∙ ap (λ n. length a + n) (length-of-three b c d)

-- ---- loads and stores in order

pub in-order : (base spill : ℕ) (one two : List Access) (first second : List Touch) → AreInOrder base spill one first
    → AreInOrder base spill two second → AreInOrder base spill (one ++ two) (second ++ first)
in-order base spill one two first second g h =
    filter-append (λ access. not (is_spill base spill access)) one two
    ∙ ap₂ (λ (a b : List Access). a ++ b) g h
    ∙ sym (ap (map (access_for base spill)) (reverse-append second first)
    ∙ map-append (access_for base spill) (reverse first) (reverse second))

-- ---- a run of so many steps that loads and stores spill words alone

pub record Ran (lines : List Line) (base spill n to : ℕ) (c : Config) : Type 0 where
  pub last : Config
  pub accesses : List Access
  pub leads : Leads lines base n c last accesses
  pub there : last.pc ≡ address_of to
  pub in_order : AreInOrder base spill accesses []

-- a run as it was stated by its lines
abbrev pub ran : (lines : List Line) (base spill at : ℕ) (piece : List Line) (c : Config) → Runs lines base spill at piece c
    → Ran lines base spill (length piece) (at + length piece) c
ran lines base spill at piece c run = record {
  last = run.last;
  accesses = run.accesses;
  leads = run.leads;
  there = run.behind;
  in_order = run.in_order;
}

-- ---- ways

-- from c to the line `to` in at most so many steps, and in exactly so many where it is steady
pub record Way (lines : List Line) (plan : Plan) (base most to : ℕ) (steady : Bool) (owed : Owed) (keys : Keys) (before after : State)
    (c : Config) : Type 0 where
  pub steps : ℕ
  pub last : Config
  pub accesses : List Access
  pub touches : List Touch
  pub leads : Leads lines base steps c last accesses
  pub few : steps ≤ most
  pub exact : steady ≡ true → steps ≡ most
  pub there : last.pc ≡ address_of to
  pub shows : Shows plan base owed keys after last
  pub trace : after.trace ≡ touches ++ before.trace
  pub in_order : AreInOrder base plan.spill accesses touches

module _ (lines : List Line) (plan : Plan) (base at : ℕ) (piece : Piece) (steady : Bool) (owed : Owed) (keys : Keys) (before after : State)
    (c : Config) where
  pub way-of : Simulates lines plan base at piece steady owed keys before after c
      → Way lines plan base piece.steps (at + length piece.lines) steady owed keys before after c
  way-of s = record {
    steps = s.steps;
    last = s.last;
    accesses = s.accesses;
    touches = s.touches;
    leads = s.leads;
    few = s.few;
    exact = s.exact;
    there = s.behind;
    shows = s.shows;
    trace = s.trace;
    in_order = s.in_order;
  }

  pub simulates-of : Way lines plan base piece.steps (at + length piece.lines) steady owed keys before after c
      → Simulates lines plan base at piece steady owed keys before after c
  simulates-of w = record {
    steps = w.steps;
    last = w.last;
    accesses = w.accesses;
    touches = w.touches;
    leads = w.leads;
    few = w.few;
    exact = w.exact;
    behind = w.there;
    shows = w.shows;
    trace = w.trace;
    in_order = w.in_order;
  }

module _ (lines : List Line) (plan : Plan) (base : ℕ) where
  -- the same way with another bound and end that are equal
  pub way-same : (most more to other : ℕ) (steady : Bool) (owed : Owed) (keys : Keys) (before after : State) (c : Config)
      → most ≡ more → to ≡ other
      → Way lines plan base most to steady owed keys before after c → Way lines plan base more other steady owed keys before after c
  way-same most more to other steady owed keys before after c same end w = record {
    steps = w.steps;
    last = w.last;
    accesses = w.accesses;
    touches = w.touches;
    leads = w.leads;
    few = subst (λ n. w.steps ≤ n) same w.few;
    exact = λ yes. w.exact yes ∙ same;
    there = w.there ∙ ap address_of end;
    shows = w.shows;
    trace = w.trace;
    in_order = w.in_order;
  }

  -- the same way with a greater bound, where it need not be steady
  pub way-within : (most more to : ℕ) (steady : Bool) (owed : Owed) (keys : Keys) (before after : State) (c : Config) → most ≤ more
      → Way lines plan base most to steady owed keys before after c → Way lines plan base more to false owed keys before after c
  way-within most more to steady owed keys before after c within w =
      let few : w.steps ≤ most = w.few in
      record {
        steps = w.steps;
        last = w.last;
        accesses = w.accesses;
        touches = w.touches;
        leads = w.leads;
        few = omega (arith, few, within);
        exact = λ no. absurd (false≢true no);
        there = w.there;
        shows = w.shows;
        trace = w.trace;
        in_order = w.in_order;
      }

  -- a run that only moves numbers is a way between states with the same trace
  abbrev pub way-ran : (n to : ℕ) (owed : Owed) (keys : Keys) (before after : State) (c : Config) (run : Ran lines base plan.spill n to c)
      → after.trace ≡ before.trace → Shows plan base owed keys after run.last
      → Way lines plan base n to true owed keys before after c
  way-ran n to owed keys before after c run same shows = record {
    steps = n;
    last = run.last;
    accesses = run.accesses;
    touches = [];
    leads = run.leads;
    few = omega arith;
    exact = λ yes. refl;
    there = run.there;
    shows = shows;
    trace = same;
    in_order = run.in_order;
  }

module _ (laws : MachineLaws) (lines : List Line) (base : ℕ) where
  abbrev pub ran-none : (spill at : ℕ) (c : Config) → c.pc ≡ address_of at → Ran lines base spill 0 at c
  ran-none spill at c pc = record { last = c; accesses = []; leads = laws.none lines base c; there = pc; in_order = refl }

  abbrev pub ran-then : (spill m n middle to : ℕ) (c : Config) (first : Ran lines base spill m middle c)
      → Ran lines base spill n to first.last → Ran lines base spill (m + n) to c
  ran-then spill m n middle to c first second = record {
    last = second.last;
    accesses = first.accesses ++ second.accesses;
    leads = laws.steps lines base m n c first.last second.last first.accesses second.accesses first.leads second.leads;
    there = second.there;
    in_order = in-order base spill first.accesses second.accesses [] [] first.in_order second.in_order;
  }

  pub way-then : (plan : Plan) (most more middle to : ℕ) (one other both : Bool) (owes owed : Owed) (between keys : Keys)
      (before mid after : State)
      (c : Config) (first : Way lines plan base most middle one owes between before mid c)
      → Way lines plan base more to other owed keys mid after first.last
      → (both ≡ true → one ≡ true) → (both ≡ true → other ≡ true)
      → Way lines plan base (most + more) to both owed keys before after c
  way-then plan most more middle to one other both owes owed between keys before mid after c first second left right =
      let few : first.steps ≤ most = first.few in
      let fewer : second.steps ≤ more = second.few in
      record {
        steps = first.steps + second.steps;
        last = second.last;
        accesses = first.accesses ++ second.accesses;
        touches = second.touches ++ first.touches;
        leads = laws.steps lines base first.steps second.steps c first.last second.last first.accesses second.accesses first.leads
            second.leads;
        few = omega (arith, few, fewer);
        exact = λ yes. ap₂ (λ (m n : ℕ). m + n) (first.exact (left yes)) (second.exact (right yes));
        there = second.there;
        shows = second.shows;
        trace = second.trace ∙ ap (λ trace. second.touches ++ trace) first.trace ∙ sym
            (append_assoc second.touches first.touches before.trace);
        in_order = in-order base plan.spill first.accesses second.accesses first.touches second.touches first.in_order second.in_order;
      }

-- ---- homes

pub given-low : (number : ℕ) → is_given number ≡ true → number < 28
given-low number h = grind (arith, nat_tests)

pub given-some : (number : ℕ) → is_given number ≡ true → 0 < number
given-some number h = grind (arith, nat_tests)

pub given-apart : (number : ℕ) → is_given number ≡ true → number ≢ 10
given-apart number h = grind (arith, nat_tests)

-- the register of a home is no zero, no register of the block and no x31
pub home-some : (spill scratch : ℕ) (home : Home) → 28 ≤ scratch → IsHome spill home → 0 < register_of scratch home
home-some spill scratch (home.Register number) low h = given-some number h
home-some spill scratch (home.Spill word) low h = omega (arith, low)

pub home-below : (spill scratch : ℕ) (home : Home) → scratch ≤ 30 → IsHome spill home → register_of scratch home < 31
home-below spill scratch (home.Register number) high h = let low = given-low number h in omega (arith, low)
home-below spill scratch (home.Spill word) high h = omega (arith, high)

pub home-apart : (spill scratch : ℕ) (home : Home) → 28 ≤ scratch → IsHome spill home → register_of scratch home ≢ 10
home-apart spill scratch (home.Register number) low h = given-apart number h
home-apart spill scratch (home.Spill word) low h = omega (arith, low)

-- ---- registers that are kept: those below x28 but one

pub record KeepsBut (but : ℕ) (c d : Config) : Type 0 where
  pub block : d.block ≡ c.block
  pub sized : length d.registers ≡ length c.registers
  pub same : (r : ℕ) → r < 28 → r ≢ but → register_at d.registers r ≡ register_at c.registers r

pub keeps-on : (but : ℕ) (c d e : Config) → KeepsBut but c d → KeepsBut but d e → KeepsBut but c e
keeps-on but c d e g h = record {
  block = h.block ∙ g.block;
  sized = h.sized ∙ g.sized;
  same = λ r low apart. h.same r low apart ∙ g.same r low apart;
}

pub keeps-from : (but : ℕ) (changed : List ℕ) (c d : Config) → AgreeBut changed c.registers d.registers → d.block ≡ c.block
    → ((r : ℕ) → r < 28 → r ≢ but → is_among r changed ≡ false) → KeepsBut but c d
keeps-from but changed c d agree block apart = record {
  block = block;
  sized = agree.sized;
  same = λ r low no. agree.same r (apart r low no);
}

pub among-one : (r s but : ℕ) → r < 28 → r ≢ but → 28 ≤ s → is_among r (s ∷ []) ≡ false
among-one r s but low apart high = grind (arith, nat_tests)

pub among-but : (r but : ℕ) → r < 28 → r ≢ but → is_among r (but ∷ []) ≡ false
among-but r but low apart = grind (arith, nat_tests)

pub among-two : (r s t but : ℕ) → r < 28 → r ≢ but → 28 ≤ s → 28 ≤ t → is_among r (s ∷ t ∷ []) ≡ false
among-two r s t but low apart high more = grind (arith, nat_tests)

pub block-kept : (base spill words but : ℕ) (c d : Config) → but ≢ 10 → KeepsBut but c d → HasBlock base spill words c
    → HasBlock base spill words d
block-kept base spill words but c d apart keeps has =
    let no : 10 ≢ but = λ e. apart (sym e) in
    record {
      count = keeps.sized ∙ has.count;
      bytes = subst (λ block. All (λ byte. byte < 256) block) (sym keeps.block) has.bytes;
      sized = ap length keeps.block ∙ has.sized;
      block_at = keeps.same 10 (omega arith) no ∙ has.block_at;
    }

-- a home that is not that of the register
pub held-kept : (spill : ℕ) (to other : Home) (c d : Config) → KeepsBut (register_of 30 to) c d → IsHome spill other → other ≢ to
    → held_in d other ≡ held_in c other
held-kept spill (home.Register number) (home.Register other) c d keeps is apart =
    keeps.same other (given-low other is) (λ e. apart (ap home.Register e))
held-kept spill (home.Spill word) (home.Register other) c d keeps is apart =
    let low = given-low other is in keeps.same other low (omega (arith, low))
held-kept spill to (home.Spill other) c d keeps is apart = ap (λ block. held_in (record c { block = block }) (home.Spill other)) keeps.block

-- ---- what is shown

-- one test passes only where another does
abbrev pub Within : Keys → Keys → Type 0
Within fewer keys = (key : Key) → fewer key ≡ true → keys key ≡ true

pub shows-fewer : (plan : Plan) (base : ℕ) (owed : Owed) (keys fewer : Keys) (state : State) (c : Config) → Within fewer keys
    → Shows plan base owed keys state c → Shows plan base owed fewer state c
shows-fewer plan base owed keys fewer state c within h = record {
  block = h.block;
  words = h.words;
  held = λ key home need there. h.held key home (within key need) there;
  clear = λ number home need there. h.clear number home (within (Register number) need) there;
}
