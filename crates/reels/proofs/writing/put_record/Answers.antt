use Rattle.std.proofs.Common.{◌+◌, ◌++◌, length, sym, refl, ap, ◌∙◌, arith, length-append}
use lib.Seq.{paste}
use Rattle.std.proofs.lemmas.List.Edits.{paste-paste}
use Rattle.reels.specs.Bytes.{bytes2, bytes4}
use Rattle.reels.specs.Writing.{written}
use Rattle.reels.proofs.writing.put_record.Goals as goal

pub returns : goal.returns
returns c =
    let packet = c.args.packet.now in
    let head = bytes4 c.args.cycle ++ bytes2 (length packet) in
    c.put-2.ensures ∙ ap (λ bs. written bs (c.args.at + 6) packet) (c.put.ensures ∙ ap (written c.args.bytes.now c.args.at) c.head.ensures)
    ∙ paste-paste c.args.bytes.now c.args.at head packet 6 (length packet) refl refl (omega arith)
    ∙ ap (paste c.args.bytes.now c.args.at (head ++ packet)) (sym (length-append head packet))
