use Rattle.std.proofs.Common.{[], ◌++◌, get_or, take, sym, ap, ◌∙◌, arith}
use Rattle.std.proofs.lemmas.List.{flat_map_more, take_more, take_all}
use Rattle.texts.specs.Hex.{hex_byte, hex_text}
use Rattle.texts.proofs.hex.Goals as goal

pub loop-byte-preserved : goal.loop-byte-preserved
loop-byte-preserved c =
    let bs = c.args.bytes.now in
    let i = c.loop-byte.byte-index in
    let b = get_or bs i 0 in
    c.in_ok-push_byte.ensures ∙ ap (λ t. t ++ hex_byte b) c.loop-byte.invariant ∙ flat_map_more hex_byte [] (take i bs) b
    ∙ ap hex_text (sym (take_more bs i 0 c.loop-byte-test.true))

pub returns : goal.returns
returns c = c.loop-byte.invariant ∙ ap hex_text (take_all c.loop-byte.byte-index c.args.bytes.now (omega arith))
