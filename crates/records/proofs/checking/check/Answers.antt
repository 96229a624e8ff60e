use mir.Facts.{Fits-lt-pow}
use Rattle.records.proofs.Captured.{captured_is_found}
use Rattle.records.proofs.Whole.{accepted_whole}
use Rattle.records.proofs.checking.check.Goals as goal

pub returns : goal.returns
returns c = record {
  value = c.examine.ensures;
  whole = accepted_whole c.args.reel.now (λ i. Fits-lt-pow (c.type_inv.reel i)) c.examine.result c.examine.ensures;
  captured = captured_is_found;
}
