-- What a call puts. This project's own.
use Rattle.std.specs.Prelude.{ℕ, ◌≡◌, ◌⊎◌, List, []}
use Rattle.psi_edges.specs.Causes.{Rose}
use Rattle.psi_edges.specs.Held.{Appends, AppendsFront}
use Rattle.psi_top.specs.Line.{cannot_write_line}
use Rattle.psi_top.specs.Outcome.{IsTextOf, Outcome, line_of, status_of}
use Rattle.psi_top.specs.Views.{SinkView}

-- these bytes were put, and no put failed
pub record IsWhole (bytes : List ℕ) (old new : SinkView) : Type 0 where
  pub held : Appends old.held new.held bytes
  pub faults : new.faults ≡ old.faults

-- a put of these bytes failed, and the sink holds a front of them more
pub record IsCut (bytes : List ℕ) (old new : SinkView) : Type 0 where
  pub held : AppendsFront old.held new.held bytes
  pub rose : Rose old.faults new.faults

-- an outcome was put, by a call that finds the two sinks as `out_old` and `err_old` and leaves them as `out_new` and `err_new`, with this
-- status: its text and its line whole; or a front of its text, and then that it cannot be put; or a front of its line
pub data IsPut (outcome : Outcome) (out_old out_new err_old err_new : SinkView) : ℕ → Type 0 where
  whole : {text : List ℕ} → IsTextOf outcome text → IsWhole text out_old out_new → IsWhole (line_of outcome) err_old err_new → IsPut outcome out_old out_new err_old err_new (status_of outcome)
  out_failed : {text : List ℕ} → line_of outcome ≡ [] → IsTextOf outcome text → IsCut text out_old out_new → IsWhole cannot_write_line err_old err_new ⊎ IsCut cannot_write_line err_old err_new → IsPut outcome out_old out_new err_old err_new 3
  err_failed : out_new ≡ out_old → IsCut (line_of outcome) err_old err_new → IsPut outcome out_old out_new err_old err_new 3

-- a line was put, by a call that answers this status where it is put whole
abbrev pub IsLinePut : ℕ → List ℕ → SinkView → SinkView → ℕ → Type 0
IsLinePut status line old new result = ((result ≡ status) × IsWhole line old new) ⊎ ((result ≡ 3) × IsCut line old new)
