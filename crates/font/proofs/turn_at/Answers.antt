use mathlib.Core.Path.{ap, ◌∙◌, subst}
use Rattle.std.specs.Prelude.{Ok}
use Rattle.std.proofs.lemmas.Result.{err_from_is_err_and}
use Rattle.packet.proofs.StandingLaws.{bytes_fit}
use Rattle.font.proofs.TurnLaws.{FoundIn, piece_found, turn_is}
use Rattle.font.proofs.turn_at.Goals as goal

pub returns-in_err-x : goal.returns-in_err-x
returns-in_err-x c =
    let s = c.args.font.now in
    let p = err_from_is_err_and c.from_residual.result c.from_residual.ensures.1 in
    λ codes m. rw (p.1, p.2) (turn_is s c.args.at _ (bytes_fit _ c.type_inv.font) c.piece_at.ensures _ codes (c.in_err-x.was))

pub packet_turn-requires : goal.packet_turn-requires
packet_turn-requires c =
    let s = c.args.font.now in
    subst (FoundIn s) (c.in_ok-x.was ∙ ap Ok c.in-Packet.is) (piece_found s c.args.at _ (bytes_fit _ c.type_inv.font) c.piece_at.ensures)

pub returns-in-Packet : goal.returns-in-Packet
returns-in-Packet c =
    let s = c.args.font.now in
    λ codes m. c.packet_turn.ensures codes m
    ∙ turn_is s c.args.at _ (bytes_fit _ c.type_inv.font) c.piece_at.ensures _ codes (c.in_ok-x.was ∙ ap Ok c.in-Packet.is)

pub returns-in-Command : goal.returns-in-Command
returns-in-Command c =
    let s = c.args.font.now in
    λ codes m. turn_is s c.args.at _ (bytes_fit _ c.type_inv.font) c.piece_at.ensures _ codes (c.in_ok-x.was ∙ ap Ok c.in-Command.is)

pub returns-in-Last : goal.returns-in-Last
returns-in-Last c =
    let s = c.args.font.now in
    λ codes m. turn_is s c.args.at _ (bytes_fit _ c.type_inv.font) c.piece_at.ensures _ codes (c.in_ok-x.was ∙ ap Ok c.in-Last.is)
