use native.Mathlib.Omega.{arith}
use Rattle.format.proofs.FillLaws.{limits_small}
use Rattle.packet.proofs.StandingLaws.{bytes_fit, stands_found}
use Rattle.glyph.proofs.PacketLaws.{no_room_lem, untouched, measured, drawn_in}
use borrow.Author.Rules.{rules}
use Rattle.glyph.proofs.draw_packet.Goals as goal

pub overflow_mul-x : goal.overflow_mul-x
overflow_mul-x c =
    let f = stands_found _ (bytes_fit _ c.type_inv.font) _ _ c.requires.stands in
    omega (arith, limits_small _ _ f.limits)

pub returns-then-buf-x : goal.returns-then-buf-x
returns-then-buf-x c =
    let s = c.args.font.now in
    let b = bytes_fit s c.type_inv.font in
    record {
      drawn = λ p rest e. rw c.at.ensures (no_room_lem s b _ _ c.requires p rest e c.args.buf.now (omega arith));
      pixels = λ p rest e. untouched s b _ _ c.requires p rest e c.args.buf.now (omega arith);
    }

pub draw_raster-requires : goal.draw_raster-requires
draw_raster-requires c =
    let f = stands_found _ (bytes_fit _ c.type_inv.font) _ _ c.requires.stands in
    (f.f, f.limits, search rules, c.requires.whole)

pub returns : goal.returns
returns c =
    let s = c.args.font.now in
    let b = bytes_fit s c.type_inv.font in
    record {
      drawn = λ p rest e. measured s b _ _ c.requires p rest e c.args.buf.now _ (omega arith) (c.measures_at.ensures p rest e);
      pixels = λ p rest e. drawn_in s b _ _ c.requires p rest e c.args.buf.now _ (omega arith) c.draw_raster.ensures;
    }
