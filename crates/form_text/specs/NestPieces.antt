-- What of the lines of a nest is put at once. This project's own.
use Rattle.std.specs.Prelude.{ℕ, List, []}
use Rattle.shapes_core.specs.declared.area.Area.{Area}
use Rattle.loop_ir.specs.Steps.{Steps, Then}
use Rattle.form_text.specs.NestSpelling.{action_text}

-- the first of these steps, where it is an action
abbrev pub first_text : List Area → Steps → List ℕ
first_text areas (Then action rest) = action_text areas action
first_text areas _ = []
