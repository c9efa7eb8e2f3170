-- Chains of steps: they compose, and where they end is determined.
use Rattle.std.proofs.Common.{◌≡◌, ◌≢◌, ℕ, zero, suc, ◌+◌, ◌<◌, ◌≤◌, List, length, Some, refl, sym, ap, ◌∙◌, arith}
use Rattle.std.proofs.Math.Nat.{zero-add, suc-add}
use Rattle.rv_line.specs.declared.line.Line.{Line}
use Rattle.rv_steps.specs.Machine.{Config, address_of, Next, Goes, AtEnd, Halts, Stop, next_step}
use Rattle.rv_steps.proofs.StepLemmas.{next_step-at_end, at_end-next_step}
use Rattle.rv_steps.specs.Stops.{go_on, config_after, Reaches, Ends, End, Done, Budget, Stopped, Stops, Outcome, one_more, spent_outcome, longer_outcome, run}

same_outcome : (e f : End) (d g : Config) → ◌≡◌ {A = Outcome} (record { end = e; last = d }) (record { end = f; last = g }) → (e ≡ f) × (d ≡ g)
same_outcome e f d g h = (ap (λ (o : Outcome). o.end) h, ap (λ (o : Outcome). o.last) h)

module _ (lines : List Line) (base : ℕ) where
  go_on-add : (m n : ℕ) (x : Next) (d : Config) → ((e : Config) → config_after lines base m e ≡ Some d → config_after lines base (m + n) e ≡ config_after lines base n d) → go_on x (λ e. config_after lines base m e) ≡ Some d → go_on x (λ e. config_after lines base (m + n) e) ≡ config_after lines base n d
  go_on-add m n (Goes e) d more h = more e h
  go_on-add m n AtEnd d more h = cc
  go_on-add m n (Halts stop) d more h = cc

  -- m steps to d, and n more
  pub config_after-add : (m n : ℕ) (c d : Config) → config_after lines base m c ≡ Some d → config_after lines base (m + n) c ≡ config_after lines base n d
  unfolding config_after
  config_after-add zero n c d h = let e : c ≡ d = cc in rw (zero-add, e) refl
  config_after-add (suc m) n c d h = rw suc-add (go_on-add m n (next_step lines base c) d (λ e k. config_after-add m n e d k) h)

  pub reaches_more : (m n : ℕ) (c d e : Config) → Reaches lines base m c d → Reaches lines base n d e → Reaches lines base (m + n) c e
  reaches_more m n c d e first second = record { reached = config_after-add m n c d first.reached ∙ second.reached }

  -- the other way round: what m + n steps reach, n steps reach from where m steps lead
  pub reaches_rest : (m n : ℕ) (c d e : Config) → Reaches lines base m c d → Reaches lines base (m + n) c e → Reaches lines base n d e
  reaches_rest m n c d e first whole = record { reached = sym (config_after-add m n c d first.reached) ∙ whole.reached }

  pub reaches_none : (c : Config) → Reaches lines base 0 c c
  unfolding config_after
  reaches_none c = record { reached = refl }

  pub reaches_one : (c d : Config) → next_step lines base c ≡ Goes d → Reaches lines base 1 c d
  unfolding config_after
  reaches_one c d h = record { reached = rw h refl }

  pub reaches_same : (n : ℕ) (c d e : Config) → Reaches lines base n c d → Reaches lines base n c e → d ≡ e
  reaches_same n c d e first second = cc (first.reached, second.reached)

  -- ---- the first step of a chain

  go_on-some : (n : ℕ) (x : Next) (d : Config) → go_on x (λ e. config_after lines base n e) ≡ Some d → (m : Config) × (x ≡ Goes m) × (config_after lines base n m ≡ Some d)
  go_on-some n (Goes m) d h = (m, refl, h)
  go_on-some n AtEnd d h = cc
  go_on-some n (Halts stop) d h = cc

  pub first_step : (n : ℕ) (c d : Config) → Reaches lines base (suc n) c d → (m : Config) × (next_step lines base c ≡ Goes m) × Reaches lines base n m d
  unfolding config_after
  first_step n c d h = let s = go_on-some n (next_step lines base c) d h.reached in (s.0, s.1, record { reached = s.2 })

  pub reaches_later : (n : ℕ) (c m d : Config) → next_step lines base c ≡ Goes m → Reaches lines base n m d → Reaches lines base (suc n) c d
  unfolding config_after
  reaches_later n c m d h more = record { reached = rw h more.reached }

  pub reaches_zero : (c d : Config) → Reaches lines base 0 c d → c ≡ d
  unfolding config_after
  reaches_zero c d h = let e = h.reached in cc

  -- ---- runs

  pub run-done : (budget steps : ℕ) (c d : Config) → steps ≤ budget → Reaches lines base steps c d → d.pc ≡ address_of (length lines) → run lines base budget c ≡ record { end = Done steps; last = d }
  unfolding run
  run-done zero zero c d is_allowed r h = let e = reaches_zero c d r in rw (e, next_step-at_end lines base d h) refl
  run-done zero (suc n) c d is_allowed r h = absurd (omega arith)
  run-done (suc b) zero c d is_allowed r h = let e = reaches_zero c d r in rw (e, next_step-at_end lines base d h) refl
  run-done (suc b) (suc n) c d is_allowed r h =
      let s = first_step n c d r in
      let e = run-done b n s.0 d (omega arith) s.2 h in
      rw (s.1, e) refl

  pub run-budget : (budget : ℕ) (c d : Config) → Reaches lines base budget c d → d.pc ≢ address_of (length lines) → run lines base budget c ≡ record { end = Budget; last = d }
  unfolding run
  run-budget zero c d r h = let e = reaches_zero c d r in rw e (spent_outcome-not_end (next_step lines base d) d (λ e. h (at_end-next_step lines base d e)))
    where
      spent_outcome-not_end : (x : Next) (d : Config) → x ≢ AtEnd → spent_outcome x d ≡ record { end = Budget; last = d }
      spent_outcome-not_end (Goes e) d h = refl
      spent_outcome-not_end AtEnd d h = absurd (h refl)
      spent_outcome-not_end (Halts stop) d h = refl
  run-budget (suc b) c d r h =
      let s = first_step b c d r in
      let e = run-budget b s.0 d s.2 h in
      rw (s.1, e) refl

  pub run-stopped : (budget steps : ℕ) (c : Config) (stop : Stop) (d : Config) → steps < budget → Reaches lines base steps c d → next_step lines base d ≡ Halts stop → run lines base budget c ≡ record { end = Stopped stop; last = d }
  unfolding run
  run-stopped zero n c stop d is_allowed r h = absurd (omega arith)
  run-stopped (suc b) zero c stop d is_allowed r h = let e = reaches_zero c d r in rw (e, h) refl
  run-stopped (suc b) (suc n) c stop d is_allowed r h =
      let s = first_step n c d r in
      let e = run-stopped b n s.0 stop d (omega arith) s.2 h in
      rw (s.1, e) refl

  -- the relation holds of nothing else than what is computed
  pub run-is : (budget : ℕ) (c : Config) (end : End) (d : Config) → Stops lines base budget c end d → run lines base budget c ≡ record { end = end; last = d }
  run-is budget c (Done steps) d h = run-done budget steps c d h.0 h.1.reaches h.1.at_end
  run-is budget c Budget d h = run-budget budget c d h.0 h.1
  run-is budget c (Stopped stop) d h = run-stopped budget h.steps c stop d h.within h.reaches h.stopped

  stops_later : (budget : ℕ) (c m : Config) (end : End) (d : Config) → next_step lines base c ≡ Goes m → Stops lines base budget m end d → Stops lines base (suc budget) c (one_more end) d
  stops_later b c m (Done steps) d e h = (omega arith, record { reaches = reaches_later steps c m d e h.1.reaches; at_end = h.1.at_end })
  stops_later b c m Budget d e h = (reaches_later b c m d e h.0, h.1)
  stops_later b c m (Stopped stop) d e h =
      record { steps = suc h.steps; within = omega arith; reaches = reaches_later h.steps c m d e h.reaches; stopped = h.stopped }

  spent_outcome-stops : (x : Next) (c : Config) → next_step lines base c ≡ x → Stops lines base 0 c (spent_outcome x c).end (spent_outcome x c).last
  spent_outcome-stops (Goes d) c h = (reaches_none c, λ e. cc (next_step-at_end lines base c e))
  spent_outcome-stops AtEnd c h = (omega arith, record { reaches = reaches_none c; at_end = at_end-next_step lines base c h })
  spent_outcome-stops (Halts stop) c h = (reaches_none c, λ e. cc (next_step-at_end lines base c e))

  longer_outcome-stops : (b : ℕ) (x : Next) (c : Config) → next_step lines base c ≡ x → ((d : Config) → Stops lines base b d (run lines base b d).end (run lines base b d).last) → Stops lines base (suc b) c (longer_outcome x c (λ d. run lines base b d)).end (longer_outcome x c (λ d. run lines base b d)).last
  longer_outcome-stops b (Goes d) c h more = stops_later b c d (run lines base b d).end (run lines base b d).last h (more d)
  longer_outcome-stops b AtEnd c h more = (omega arith, record { reaches = reaches_none c; at_end = at_end-next_step lines base c h })
  longer_outcome-stops b (Halts stop) c h more = record { steps = 0; within = omega arith; reaches = reaches_none c; stopped = h }

  -- and it holds of that
  pub run-stops : (budget : ℕ) (c : Config) → Stops lines base budget c (run lines base budget c).end (run lines base budget c).last
  unfolding run
  run-stops zero c = spent_outcome-stops (next_step lines base c) c refl
  run-stops (suc b) c = longer_outcome-stops b (next_step lines base c) c refl (λ d. run-stops b d)

  pub stops_once : (budget : ℕ) (c : Config) (e f : End) (d g : Config) → Stops lines base budget c e d → Stops lines base budget c f g → (e ≡ f) × (d ≡ g)
  stops_once budget c e f d g first second =
      same_outcome e f d g (sym (run-is budget c e d first) ∙ run-is budget c f g second)

  pub ends_once : (m n : ℕ) (c d e : Config) → Ends lines base m c d → Ends lines base n c e → (m ≡ n) × (d ≡ e)
  ends_once m n c d e first second =
      let a = run-done (m + n) m c d (omega arith) first.reaches first.at_end in
      let b = run-done (m + n) n c e (omega arith) second.reaches second.at_end in
      let same = same_outcome (Done m) (Done n) d e (sym a ∙ b) in
      let steps = same.0 in
      (cc, same.1)

  pub stops_within : (budget more : ℕ) (c : Config) (end : End) (d : Config) → budget ≤ more → end ≢ Budget → Stops lines base budget c end d → Stops lines base more c end d
  stops_within budget more c (Done steps) d le ne h = (omega arith, h.1)
  stops_within budget more c Budget d le ne h = absurd (ne refl)
  stops_within budget more c (Stopped stop) d le ne h =
      record { steps = h.steps; within = omega arith; reaches = h.reaches; stopped = h.stopped }
