-- The loads and stores of a run. This project's own.
use Rattle.std.specs.Prelude.{◌≡◌, ℕ, zero, suc, ◌≤◌, List, [], ◌∷◌, ◌++◌}
use Rattle.rv_line.specs.declared.line.Line.{Line}
use Rattle.rv_steps.specs.Machine.{Access, Config, NoAccess, access_at, Next, Goes, AtEnd, Halts, next_step}
use Rattle.rv_steps.specs.Stops.{Reaches}

-- what a step adds to the loads and stores of a run
abbrev pub touched : Access → List Access
touched NoAccess = []
touched access = access ∷ []

-- of a step and what follows it: a step that is not made touches nothing
abbrev pub with_step : Next → Access → (Config → List Access) → List Access
with_step (Goes d) access more = touched access ++ more d
with_step AtEnd _ more = []
with_step (Halts stop) _ more = []

-- the loads and stores of the first n steps from c, in order
unfoldable pub accesses_of : List Line → ℕ → ℕ → Config → List Access
accesses_of lines base zero c = []
accesses_of lines base (suc n) c = with_step (next_step lines base c) (access_at lines c) (λ d. accesses_of lines base n d)

-- n steps lead from c to d, and these are their loads and stores, in order
pub record Leads (lines : List Line) (base n : ℕ) (c d : Config) (accesses : List Access) : Type 0 where
  pub reaches : Reaches lines base n c d
  pub in_order : accesses_of lines base n c ≡ accesses

-- at most so many steps do
pub record LeadsWithin (lines : List Line) (base most : ℕ) (c d : Config) (accesses : List Access) : Type 0 where
  pub steps : ℕ
  pub few : steps ≤ most
  pub leads : Leads lines base steps c d accesses
