use Rattle.find.proofs.FoundLaws.{found_means}
use Rattle.draw.proofs.CodeLaws.{code_answer, code_pixels, absent_answer, absent_pixels}
use Rattle.draw.proofs.draw_accepted.Goals as goal

pub returns-in_default : goal.returns-in_default
returns-in_default c =
    let t = found_means _ _ _ _ _ c.requires.1 c.packet_of.ensures c.in_default.is in
    record { result_value = rw c.at.ensures (absent_answer _ _ c.requires.1 _ _ t); pixels_after = absent_pixels _ _ c.requires.1 _ _ t }

pub draw_packet-requires : goal.draw_packet-requires
draw_packet-requires c =
    (found_means _ _ _ _ _ c.requires.1 c.packet_of.ensures c.in-Some.is).drawable

pub returns : goal.returns
returns c =
    let t = found_means _ _ _ _ _ c.requires.1 c.packet_of.ensures c.in-Some.is in
    let d = c.draw_packet in
    record {
      result_value = code_answer _ _ c.requires.1 _ c.args.pixels.now _ _ t _ d.ensures.drawn;
      pixels_after = code_pixels _ _ c.requires.1 _ c.args.pixels.now _ _ t _ d.ensures.pixels;
    }
