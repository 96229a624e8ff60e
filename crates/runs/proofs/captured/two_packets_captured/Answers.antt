use Rattle.std.proofs.Common.{[], ◌∷◌, refl, lit<}
use Rattle.records.proofs.Captured.{captured_is_found}
use Rattle.reels.specs.Captures.{Capture, opens, appends}
use Rattle.reels.specs.Trailers.{trailer_bytes}
use Rattle.reels.specs.Writing.{view, Closed}
use Rattle.runs.specs.Captured.{plan, first, second, room, with_both, open_reel, closed_reel, all}
use Rattle.runs.proofs.captured.two_packets_captured.Goals as goal

both_appended : Capture plan (view open_reel) with_both (first ∷ second ∷ [])
both_appended =
    appends second (appends first (opens room) (lit< tt) (record { answer = refl; left = refl; reel = refl })) (lit< tt)
    (record { answer = refl; left = refl; reel = refl })

then_closed : Closed open_reel with_both all closed_reel
then_closed = record { fits = refl; left = refl; length = refl; count = refl }

pub returns : goal.returns
unfolding trailer_bytes
returns c = record {
  planned = refl;
  capture = both_appended;
  closed = then_closed;
  found = captured_is_found plan open_reel closed_reel with_both all (first ∷ second ∷ []) refl both_appended then_closed;
  bytes = refl;
}
