use mathlib.Core.Path.{sym, ap, ◌∙◌}
use Rattle.std.proofs.lemmas.Result.{err_from_is_err_and}
use Rattle.font.proofs.TurnLaws.{behind, seen_before, not_before}
use Rattle.font.specs.declared.Turn.TheVariants.{Packet}
use Rattle.font.proofs.packet_turn.Goals as goal

pub returns-then-seen-x : goal.returns-then-seen-x
returns-then-seen-x c =
    λ codes m. seen_before c.args.seen.now codes c.args.x _ m c.requires.code c.if-seen-x.true

pub returns-in_err-judge : goal.returns-in_err-judge
returns-in_err-judge c =
    let x = c.args.x in
    let p = err_from_is_err_and c.from_residual.result c.from_residual.ensures.1 in
    λ codes m. rw (p.1, p.2)
    (ap (λ j. behind j (Packet x.code x.end)) (sym (c.in_err-judge.was)) ∙ not_before c.args.seen.now codes x _ _ m c.requires.code c.if-seen-x.false c.judge.ensures)

pub returns : goal.returns
returns c =
    let x = c.args.x in
    λ codes m. ap (λ j. behind j (Packet x.code x.end)) (sym (c.in_ok-judge.was))
    ∙ not_before c.args.seen.now codes x _ _ m c.requires.code c.if-seen-x.false c.judge.ensures
