use native.Mathlib.Omega.{arith}
use Rattle.format.specs.Pieces.{short, extended, long}
use Rattle.packet.proofs.StandingLaws.{bytes_fit}
use Rattle.measures.proofs.StandLaws.{inside, small, room, is_said}
use Rattle.measures.proofs.measures_at.Goals as goal

pub bounds-font-at : goal.bounds-font-at
bounds-font-at c = inside _ (bytes_fit _ c.type_inv.font) _ _ c.requires

pub overflow_add-fields : goal.overflow_add-fields
overflow_add-fields c = omega (arith, inside _ (bytes_fit _ c.type_inv.font) _ _ c.requires)

pub narrow-requires : goal.narrow-requires
narrow-requires c =
    let b = bytes_fit _ c.type_inv.font in
    (room _ b _ _ c.requires short (rw c.from.ensures at c.in-Short.ensures), omega arith, omega arith, small _ b _ _ c.requires)

pub narrow-requires-in-Extended : goal.narrow-requires-in-Extended
narrow-requires-in-Extended c =
    let b = bytes_fit _ c.type_inv.font in
    (room _ b _ _ c.requires extended (rw c.from.ensures at c.in-Extended.ensures), omega arith, omega arith, small _ b _ _ c.requires)

pub long-requires : goal.long-requires
long-requires c =
    let b = bytes_fit _ c.type_inv.font in
    (room _ b _ _ c.requires long (rw c.from.ensures at c.in-Long.ensures), small _ b _ _ c.requires)

pub returns-in-Short : goal.returns-in-Short
returns-in-Short c = is_said _ (bytes_fit _ c.type_inv.font) _ _ c.requires short _ (rw c.from.ensures at c.in-Short.ensures) c.narrow.ensures

pub returns-in-Extended : goal.returns-in-Extended
returns-in-Extended c = is_said _ (bytes_fit _ c.type_inv.font) _ _ c.requires extended _ (rw c.from.ensures at c.in-Extended.ensures) c.narrow-in-Extended.ensures

pub returns-in-Long : goal.returns-in-Long
returns-in-Long c = is_said _ (bytes_fit _ c.type_inv.font) _ _ c.requires long _ (rw c.from.ensures at c.in-Long.ensures) c.long.ensures
