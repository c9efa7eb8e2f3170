-- What words ask for. This project's own.
use Rattle.std.specs.Prelude.{ℕ, ◌≡◌, ◌≤◌, List, [], ◌∷◌, ◌++◌, length, codes}
use Rattle.psi_edges.specs.Limits.{longest_name}
use Rattle.psi_top.specs.declared.command.Task.{Task}
use Rattle.psi_top.specs.declared.command.Task.TheVariants.{Check, ShowSource, ShowDnf, ShowOnf, ShowNest, Compile}

-- the words with which a command on a source begins
abbrev pub words_of : Task → List (List ℕ)
words_of Check = codes "check" ∷ []
words_of ShowSource = codes "show" ∷ codes "source" ∷ []
words_of ShowDnf = codes "show" ∷ codes "dnf" ∷ []
words_of ShowOnf = codes "show" ∷ codes "onf" ∷ []
words_of ShowNest = codes "show" ∷ codes "nest" ∷ []
words_of Compile = codes "compile" ∷ []

-- the words are those of this task and the name of a file, which is not too long
pub record IsCommand (words : List (List ℕ)) (task : Task) (name : List ℕ) : Type 0 where
  pub form : words ≡ words_of task ++ name ∷ []
  pub short : length name ≤ longest_name

-- the words are `run` and the names of an assembly text and of its arrays, neither of which is too long
pub record IsRun (words : List (List ℕ)) (assembly arrays : List ℕ) : Type 0 where
  pub form : words ≡ codes "run" ∷ assembly ∷ arrays ∷ []
  pub short_assembly : length assembly ≤ longest_name
  pub short_arrays : length arrays ≤ longest_name

-- the words are no command
pub record IsMisuse (words : List (List ℕ)) : Type 0 where
  pub no_source : (task : Task) (name : List ℕ) → IsCommand words task name → ⊥
  pub no_run : (assembly arrays : List ℕ) → IsRun words assembly arrays → ⊥

-- the words ask for something of the files of these names, in the order in which they are read
pub data Asks (words : List (List ℕ)) : List (List ℕ) → Type 0 where
  source : {task : Task} {name : List ℕ} → IsCommand words task name → Asks words (name ∷ [])
  run : {assembly arrays : List ℕ} → IsRun words assembly arrays → Asks words (assembly ∷ arrays ∷ [])
