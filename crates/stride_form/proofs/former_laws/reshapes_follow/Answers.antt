use Rattle.stride_form.proofs.FollowReshapeLemmas.{digit-follows, flatten-follows, offset-follows, reshape-follows, spread-follows, unflatten-follows}
use Rattle.stride_form.proofs.former_laws.reshapes_follow.Goals as goal

pub returns-clause-flat : goal.returns-clause-flat
returns-clause-flat c = flatten-follows

pub returns-clause-digit : goal.returns-clause-digit
returns-clause-digit c = digit-follows

pub returns-clause-spread : goal.returns-clause-spread
returns-clause-spread c = spread-follows

pub returns-clause-found : goal.returns-clause-found
returns-clause-found c = unflatten-follows

pub returns-clause-by_offset : goal.returns-clause-by_offset
returns-clause-by_offset c = offset-follows

pub returns-clause-whole : goal.returns-clause-whole
returns-clause-whole c = reshape-follows
