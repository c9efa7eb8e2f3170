use Rattle.std.specs.Prelude.{unsigned_abs}
use Rattle.moa_tree.specs.Expr.{Use, Iota, One, Two, Psi, Take, Drop, Reverse, Rotate, Transpose, Permute, Cat, Reshape, Ravel, Outer, Inner, Reduce, Scan}
use Rattle.shape_check.proofs.SoundLemmas.{extent-small, verdict-kept, verdict-sound}
use Rattle.shape_check.proofs.laws.operands_are_accepted.Goals as goal

pub returns-clause-uses : goal.returns-clause-uses
returns-clause-uses c = λ shapes at name s h.
    (verdict-sound shapes at (Use name) s h).0

pub returns-clause-iota : goal.returns-clause-iota
returns-clause-iota c = λ shapes at extent s h.
    let well = verdict-sound shapes at (Iota extent) s h in
    (well.0, extent-small (unsigned_abs extent) well.1)

pub returns-clause-unary : goal.returns-clause-unary
returns-clause-unary c = λ shapes at other op of s h.
    verdict-kept shapes other of (verdict-sound shapes at (One op of) s h).0

pub returns-clause-binary : goal.returns-clause-binary
returns-clause-binary c = λ shapes at other op left right s h.
    let well = verdict-sound shapes at (Two op left right) s h in
    (verdict-kept shapes other left well.0, verdict-kept shapes other right well.1, well.2)

pub returns-clause-psi : goal.returns-clause-psi
returns-clause-psi c = λ shapes at other list of s h.
    let well = verdict-sound shapes at (Psi list of) s h in
    (verdict-kept shapes other of well.0, well.1, well.2)

pub returns-clause-takes : goal.returns-clause-takes
returns-clause-takes c = λ shapes at other list of s h.
    let well = verdict-sound shapes at (Take list of) s h in
    (verdict-kept shapes other of well.0, well.1, well.2)

pub returns-clause-drops : goal.returns-clause-drops
returns-clause-drops c = λ shapes at other list of s h.
    let well = verdict-sound shapes at (Drop list of) s h in
    (verdict-kept shapes other of well.0, well.1, well.2)

pub returns-clause-reverses : goal.returns-clause-reverses
returns-clause-reverses c = λ shapes at other of s h.
    let well = verdict-sound shapes at (Reverse of) s h in
    (verdict-kept shapes other of well.0, well.1)

pub returns-clause-rotates : goal.returns-clause-rotates
returns-clause-rotates c = λ shapes at other by of s h.
    let well = verdict-sound shapes at (Rotate by of) s h in
    (verdict-kept shapes other of well.0, well.1)

pub returns-clause-transposes : goal.returns-clause-transposes
returns-clause-transposes c = λ shapes at other of s h.
    verdict-kept shapes other of (verdict-sound shapes at (Transpose of) s h).0

pub returns-clause-permutes : goal.returns-clause-permutes
returns-clause-permutes c = λ shapes at other list of s h.
    let well = verdict-sound shapes at (Permute list of) s h in
    (verdict-kept shapes other of well.0, well.1, well.2)

pub returns-clause-cat : goal.returns-clause-cat
returns-clause-cat c = λ shapes at other left right s h.
    let well = verdict-sound shapes at (Cat left right) s h in
    (verdict-kept shapes other left well.0, verdict-kept shapes other right well.1, well.2, well.3, well.4)

pub returns-clause-reshapes : goal.returns-clause-reshapes
returns-clause-reshapes c = λ shapes at other list of s h.
    let well = verdict-sound shapes at (Reshape list of) s h in
    (verdict-kept shapes other of well.0, well.1, well.2)

pub returns-clause-ravels : goal.returns-clause-ravels
returns-clause-ravels c = λ shapes at other of s h.
    verdict-kept shapes other of (verdict-sound shapes at (Ravel of) s h).0

pub returns-clause-outer : goal.returns-clause-outer
returns-clause-outer c = λ shapes at other op left right s h.
    let well = verdict-sound shapes at (Outer op left right) s h in
    (verdict-kept shapes other left well.0, verdict-kept shapes other right well.1)

pub returns-clause-inner : goal.returns-clause-inner
returns-clause-inner c = λ shapes at other fold op left right s h.
    let well = verdict-sound shapes at (Inner fold op left right) s h in
    (verdict-kept shapes other left well.0, verdict-kept shapes other right well.1, well.2, well.3)

pub returns-clause-reduces : goal.returns-clause-reduces
returns-clause-reduces c = λ shapes at other fold of s h.
    let well = verdict-sound shapes at (Reduce fold of) s h in
    (verdict-kept shapes other of well.0, well.1)

pub returns-clause-scans : goal.returns-clause-scans
returns-clause-scans c = λ shapes at other fold of s h.
    let well = verdict-sound shapes at (Scan fold of) s h in
    (verdict-kept shapes other of well.0, well.1)
