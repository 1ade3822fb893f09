use native.Mathlib.Omega.{arith}
use Rattle.pieces.proofs.CommandLaws.{special_ends, special_negative, special_cut, special_is}
use Rattle.pieces.proofs.special.Goals as goal

pub returns-then-room-k : goal.returns-then-room-k
returns-then-room-k c = let a = c.args in special_ends a.font.now a.at a.k (omega arith)

pub returns-then-n-ge-NEGATIVE : goal.returns-then-n-ge-NEGATIVE
returns-then-n-ge-NEGATIVE c = special_negative _ _ _ _ c.number_at-n.ensures (omega arith) (omega arith) (omega arith)

pub returns-then-room-k-2 : goal.returns-then-room-k-2
returns-then-room-k-2 c = special_cut _ _ _ _ c.number_at-n.ensures (omega arith) (omega arith) (omega arith) (omega arith)

pub returns : goal.returns
returns c = special_is _ _ _ _ c.number_at-n.ensures (omega arith) (omega arith) (omega arith) (omega arith) (omega arith)
