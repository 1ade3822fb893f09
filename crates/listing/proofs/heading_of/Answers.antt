use native.Mathlib.Omega.{arith}
use Rattle.find.proofs.RestLaws.{preamble_third}
use Rattle.listing.proofs.HeadingLaws.{preamble_room, heading_is_lem}
use Prim.Native.Nat.{ℕ, ◌+◌, ◌≤◌}
use mathlib.Core.Path.{◌≡◌}
use mathlib.Core.List.{List}
use lib.ListN.{length, get_or}
use Rattle.listing.specs.Listed.{Counted}
use Rattle.listing.proofs.heading_of.Goals as goal

-- Each of the four numbers stands in the font.
number_there : (s : List ℕ) (n k at : ℕ) → Counted s n → k ≡ get_or s 2 0 → at ≤ k + 15 → (at + 4 ≤ length s) × (1 ≤ 4) × (4 ≤ 4)
number_there s n k at t e h = (omega (arith, preamble_room _ _ t.1), omega arith, omega arith)

pub bounds-font-2 : goal.bounds-font-2
bounds-font-2 c = (preamble_third _ _ c.requires.1).0

pub signed_at-ds-requires : goal.signed_at-ds-requires
signed_at-ds-requires c = number_there _ _ _ _ c.requires c.from-at.ensures (omega arith)

pub signed_at-cs-requires : goal.signed_at-cs-requires
signed_at-cs-requires c = number_there _ _ _ _ c.requires c.from-at.ensures (omega arith)

pub signed_at-hppp-requires : goal.signed_at-hppp-requires
signed_at-hppp-requires c = number_there _ _ _ _ c.requires c.from-at.ensures (omega arith)

pub signed_at-vppp-requires : goal.signed_at-vppp-requires
signed_at-vppp-requires c = number_there _ _ _ _ c.requires c.from-at.ensures (omega arith)

pub returns : goal.returns
returns c =
    heading_is_lem c.args.font.now c.args.chars _ _ _ _ _ c.requires c.from-at.ensures
    (record { sfits = c.signed_at-ds.type_inv }) (record { sfits = c.signed_at-cs.type_inv }) (record { sfits = c.signed_at-hppp.type_inv }) (record { sfits = c.signed_at-vppp.type_inv })
    c.signed_at-ds.ensures c.signed_at-cs.ensures c.signed_at-hppp.ensures c.signed_at-vppp.ensures
