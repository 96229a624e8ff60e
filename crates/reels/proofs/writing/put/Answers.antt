use Rattle.std.proofs.Common.{refl, arith}
use Rattle.std.proofs.lemmas.Slice.{put_mid-paste}
use Rattle.reels.proofs.writing.put.Goals as goal

pub returns : goal.returns
returns c = put_mid-paste c.args.at _ c.args.bytes.now _ c.args.part.now _ c.copy_from_slice.ensures.after (omega arith) refl
