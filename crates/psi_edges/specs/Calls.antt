-- Which calls of a shelf and of a sink a whole file and a whole text take. This project's own.
use Rattle.std.specs.Prelude.{ℕ, ◌+◌, ◌-◌, ◌≤◌, List, drop, min}

-- A call of a shelf led from one state to another. It asked for the bytes of a file from `at` on, with room for 4096 of them or for as many as are
-- left up to `most`, and was given so many.
pub record IsAsked {T : Type 0} (takes : T → T → ℕ → ℕ → ℕ → Type 0) (most at : ℕ) (from : T) (given : ℕ) (to : T) : Type 0 where
  pub room : ℕ
  pub enough : min 4096 (most - at) ≤ room
  pub taken : takes from to at room given

-- such calls, one after the other, each from the byte on at which the one before it ended, were given so many bytes in all
pub data AreAsked {T : Type 0} (takes : T → T → ℕ → ℕ → ℕ → Type 0) (most : ℕ) (from : T) : ℕ → T → Type 0 where
  none : AreAsked takes most from 0 from
  more : {at given : ℕ} {between to : T} → AreAsked takes most from at between → IsAsked takes most at between given to → AreAsked takes most from (at + given) to

-- calls of a sink, one after the other, took so many of these bytes in all. Each was handed all that was left.
pub data AreOffered {T : Type 0} (puts : T → T → List ℕ → ℕ → Type 0) (bytes : List ℕ) (from : T) : ℕ → T → Type 0 where
  none : AreOffered puts bytes from 0 from
  more : {done taken : ℕ} {between to : T} → AreOffered puts bytes from done between → puts between to (drop done bytes) taken → AreOffered puts bytes from (done + taken) to
