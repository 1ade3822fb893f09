use Rattle.std.proofs.Common.{◌≡◌, ℕ, ◌+◌, ◌-◌, ◌≤◌, List, ◌++◌, rules, length, take, sym, ap, ◌∙◌, subst, length-take-le}
use Rattle.std.proofs.lemmas.List.{take-append-le}
use Rattle.std.proofs.Math.Seq.{take-append-add}
use Rattle.std.specs.Io.KnownBytes.{Consumes}
use Rattle.std.proofs.KnownBytes.{Consumes-trans}
use borrow.Rule.Slice.PartMut.{put_mid, post_of}
use Rattle.lines.proofs.read_full.Goals as goal

-- What stood before a place, and the first n bytes that were put there.
put_there : (a k n : ℕ) (xs ys : List ℕ) → a ≤ length xs → n ≤ length ys → take a xs ++ take n ys ≡ take (a + n) (put_mid a k xs ys)
put_there a k n xs ys within fits =
    let after = post_of a k xs in
    sym (ap (λ m. take (m + n) (put_mid a k xs ys)) (sym (length-take-le a xs within)) ∙ take-append-add (take a xs) (ys ++ after) n ∙ ap (λ l. take a xs ++ l) (take-append-le n ys after fits))

pub loop-n-preserved : goal.loop-n-preserved
loop-n-preserved g c =
    let from = c.loop-n.n in
    let came = c.in-Ok.ensures in
    let joined = put_there from (length c.loop-n.buf - from) c.in-Ok.k c.loop-n.buf c.read.new.buf c.loop-n.invariant.1 came.bound.0 in
    (search rules, search rules, subst (Consumes _ _) joined (Consumes-trans _ _ _ _ _ c.loop-n.invariant.2 came.bytes.0))
