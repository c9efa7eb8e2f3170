-- The loads and stores of chains, and how chains with theirs compose.
use Rattle.std.proofs.Common.{◌≡◌, ℕ, zero, suc, ◌+◌, ◌-◌, ◌<◌, ◌≤◌, List, [], ◌++◌, Some, length, refl, sym, ◌∙◌, arith, append_assoc, length-append}
use Rattle.std.proofs.lemmas.List.{get_or_append_left, get_or-append_right}
use Rattle.std.proofs.Math.Nat.{zero-add, suc-add}
use Rattle.std.proofs.Math.Numerals.{add-one}
use Rattle.std.specs.Prelude.{All, IsTrue, ℤ}
use Rattle.shapes_core.specs.declared.area.Area.{Area}
use Rattle.rv_line.specs.declared.assembly.Header.{Header}
use Rattle.rv_line.specs.declared.line.Line.{Line}
use Rattle.rv_steps.specs.Good.{Serves, is_fine_access}
use Rattle.rv_steps.specs.Accesses.{Leads, LeadsWithin, accesses_of, touched}
use Rattle.rv_steps.specs.Machine.{Access, Config, Goes, IsAt, Loads, NoAccess, Stores, access_at, access_of, line_step, next_step}
use Rattle.rv_steps.specs.Stops.{Reaches}
use Rattle.rv_steps.proofs.RunLemmas.{first_step, reaches_later, reaches_more, reaches_none, reaches_rest, reaches_zero}
use Rattle.rv_steps.proofs.StepLemmas.{access_at-line, next_step-at_line}

pub All-front : {X : Type 0} (P : X → Type 0) (xs ys : List X) → All P (xs ++ ys) → All P xs
All-front P xs ys all = λ k d below. rw (get_or_append_left xs ys d k below) at (all k d (omega (arith, length-append xs ys)))

pub All-back : {X : Type 0} (P : X → Type 0) (xs ys : List X) → All P (xs ++ ys) → All P ys
All-back P xs ys all = λ k d below.
    let e : length xs + k - length xs ≡ k = omega arith in
    let at = get_or-append_right xs ys (length xs) (length xs + k) d refl (omega arith) in
    rw (at, e) at (all (length xs + k) d (omega (arith, length-append xs ys)))

module _ (lines : List Line) (base : ℕ) where
  pub accesses-later : (n : ℕ) (c d : Config) → next_step lines base c ≡ Goes d → accesses_of lines base (suc n) c ≡ touched (access_at lines c) ++ accesses_of lines base n d
  unfolding accesses_of
  accesses-later n c d goes = rw goes refl

  pub accesses-none : (c : Config) → accesses_of lines base 0 c ≡ []
  unfolding accesses_of
  accesses-none c = refl

  pub accesses-add : (m n : ℕ) (c d : Config) → Reaches lines base m c d → accesses_of lines base (m + n) c ≡ accesses_of lines base m c ++ accesses_of lines base n d
  accesses-add zero n c d r = rw (zero-add, reaches_zero lines base c d r, accesses-none d) refl
  accesses-add (suc m) n c d r =
      let s = first_step lines base m c d r in
      let rest = accesses-add m n s.0 d s.2 in
      rw (suc-add, accesses-later (m + n) c s.0 s.1, accesses-later m c s.0 s.1, rest) (sym (append_assoc (touched (access_at lines c)) (accesses_of lines base m s.0) (accesses_of lines base n d)))

  -- ---- of all of them

  module _ (P : Access → Type 0) (m n : ℕ) (c d : Config) (r : Reaches lines base m c d) (all : All P (accesses_of lines base (m + n) c)) where
    pub all-front : All P (accesses_of lines base m c)
    all-front = All-front P (accesses_of lines base m c) (accesses_of lines base n d) (rw (accesses-add m n c d r) at all)

    pub all-back : All P (accesses_of lines base n d)
    all-back = All-back P (accesses_of lines base m c) (accesses_of lines base n d) (rw (accesses-add m n c d r) at all)

  pub all-each : (P : Access → Type 0) (k n : ℕ) (c d e : Config) → k < n → Reaches lines base k c d → Reaches lines base n c e → All P (accesses_of lines base n c) → All P (touched (access_at lines d))
  all-each P k n c d e below here whole all =
      let m = n - suc k in
      let split : n ≡ k + suc m = omega arith in
      let s = first_step lines base m d e (reaches_rest lines base k (suc m) c d e here (rw split at whole)) in
      let rest = all-back P k (suc m) c d here (rw split at all) in
      All-front P (touched (access_at lines d)) (accesses_of lines base m s.0) (rw (accesses-later m d s.0 s.1) at rest)

  -- ---- chains with them

  pub leads-none : (c : Config) → Leads lines base 0 c c []
  leads-none c = record { reaches = reaches_none lines base c; in_order = accesses-none c }

  pub leads-later : (n : ℕ) (c d e : Config) (rest : List Access) → next_step lines base c ≡ Goes d → Leads lines base n d e rest → Leads lines base (n + 1) c e (touched (access_at lines c) ++ rest)
  leads-later n c d e rest goes more =
      rw add-one (record { reaches = reaches_later lines base n c d e goes more.reaches; in_order = accesses-later n c d goes ∙ rw more.in_order refl })

  pub leads-line : (k n : ℕ) (line : Line) (c d e : Config) (rest : List Access) → IsAt lines k line c → next_step lines base c ≡ Goes d → Leads lines base n d e rest → Leads lines base (n + 1) c e (touched (access_of line c.registers) ++ rest)
  leads-line k n line c d e rest at goes more = rw (access_at-line lines base k c line at) at (leads-later n c d e rest goes more)

  -- a line without an access, and what follows it
  pub leads-quiet : (n k : ℕ) (line : Line) (c d e : Config) (rest : List Access) → IsAt lines k line c → access_of line c.registers ≡ NoAccess → line_step base k (Some line) c ≡ Goes d → Leads lines base n d e rest → Leads lines base (suc n) c e rest
  leads-quiet n k line c d e rest at none goes more =
      rw add-one at (rw none at (leads-line k n line c d e rest at (next_step-at_line lines base k c line at ∙ goes) more))

  pub leads-more : (m n : ℕ) (c d e : Config) (one two : List Access) → Leads lines base m c d one → Leads lines base n d e two → Leads lines base (m + n) c e (one ++ two)
  leads-more m n c d e one two first second =
      record {
        reaches = reaches_more lines base m n c d e first.reaches second.reaches;
        in_order = accesses-add m n c d first.reaches ∙ rw (first.in_order, second.in_order) refl;
      }

  pub within-exact : (n : ℕ) (c d : Config) (accesses : List Access) → Leads lines base n c d accesses → LeadsWithin lines base n c d accesses
  within-exact n c d accesses leads = record { steps = n; few = omega arith; leads = leads }

  pub within-none : (c : Config) → LeadsWithin lines base 0 c c []
  within-none c = within-exact 0 c c [] (leads-none c)

  pub within-later : (n : ℕ) (c d e : Config) (rest : List Access) → next_step lines base c ≡ Goes d → LeadsWithin lines base n d e rest → LeadsWithin lines base (n + 1) c e (touched (access_at lines c) ++ rest)
  within-later n c d e rest goes more =
      record { steps = more.steps + 1; few = omega (arith, more.few); leads = leads-later more.steps c d e rest goes more.leads }

  pub within-line : (k n : ℕ) (line : Line) (c d e : Config) (rest : List Access) → IsAt lines k line c → next_step lines base c ≡ Goes d → LeadsWithin lines base n d e rest → LeadsWithin lines base (n + 1) c e (touched (access_of line c.registers) ++ rest)
  within-line k n line c d e rest at goes more = rw (access_at-line lines base k c line at) at (within-later n c d e rest goes more)

  pub within-more : (m n : ℕ) (c d e : Config) (one two : List Access) → LeadsWithin lines base m c d one → LeadsWithin lines base n d e two → LeadsWithin lines base (m + n) c e (one ++ two)
  within-more m n c d e one two first second =
      record {
        steps = first.steps + second.steps;
        few = omega (arith, first.few, second.few);
        leads = leads-more first.steps second.steps c d e one two first.leads second.leads;
      }

  pub within-longer : (m n : ℕ) (c d : Config) (accesses : List Access) → m ≤ n → LeadsWithin lines base m c d accesses → LeadsWithin lines base n c d accesses
  within-longer m n c d accesses most run = record { steps = run.steps; few = omega (arith, run.few); leads = run.leads }

-- ---- of a run that serves its caller

touched-fine : (header : Header) (areas : List Area) (base : ℕ) (access : Access) → All (λ a. IsTrue (is_fine_access header areas base a)) (touched access) → IsTrue (is_fine_access header areas base access)
touched-fine header areas base NoAccess all = refl
touched-fine header areas base (Loads at size) all = all 0 NoAccess (omega arith)
touched-fine header areas base (Stores at size) all = all 0 NoAccess (omega arith)

pub serving-fine : (header : Header) (areas : List Area) (lines : List Line) (demand : List (List ℤ) → List (List ℤ)) (base : ℕ) (c : Config) (run : Serves header areas lines demand base c) (k : ℕ) (d : Config) → k < run.steps → Reaches lines base k c d → IsTrue (is_fine_access header areas base (access_at lines d))
serving-fine header areas lines demand base c run k d below here =
    touched-fine header areas base (access_at lines d)
    (all-each lines base (λ a. IsTrue (is_fine_access header areas base a)) k run.steps c d run.last below here run.ends.reaches run.inside)
