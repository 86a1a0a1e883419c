-- All streams, in rows or in full.
use Rattle.stream_credit.proofs.Words.{◌≡◌, ℕ, ◌<◌, ◌^◌, List, subst, sym, ◌∙◌, Stream}
use Rattle.quiet_pass.proofs.StreamLemmas.{streams-put, streams-same}
use Rattle.quiet_pass.proofs.WholeLemmas.{put-listed}
use Rattle.quiet_pass.specs.code.AllStreams.{AreKept, IsKeptNow}
use Rattle.quiet_pass.specs.code.Streams.{ArePut}
use Rattle.quiet_pass.specs.code.WholeStreams.{AreListed, put_among}
use Rattle.quiet_pass.specs.declared.kept_streams.Streams.{Streams}
use Rattle.quiet_pass.specs.declared.whole_streams.{WholeStream.WholeStream, WholeStreams.WholeStreams}
use Rattle.quiet_pass.specs.declared.all_streams.AllStreams.{AllStreams}
use Rattle.quiet_pass.specs.declared.all_streams.AllStreams.TheVariants.{Rows, Whole}

pub kept-same : (kept : AllStreams) (f g : ℕ → Stream) → ((o : ℕ) → 0 < o → f o ≡ g o) → AreKept f kept
    → AreKept g kept
kept-same (Rows rows) f g same h = streams-same f g rows same h
kept-same (Whole whole) f g same h = record {
  all = λ o above. sym (same o above) ∙ h.all o above;
  names = h.names;
}

-- ---- one that is put

pub put-in-rows : {s : ℕ} {entry : Stream} {old new : Streams} → ArePut s entry old new
    → IsKeptNow s entry (Rows old) (Rows new)
put-in-rows {s} {entry} {old} {new} put f g own others h = streams-put s entry f g own others old new h put

pub put-in-full : {s : ℕ} {entry : Stream} (old : AllStreams) (whole new : WholeStreams) → s < 2 ^ 31
    → ((streams : ℕ → Stream) → AreKept streams old → AreListed streams whole.list.items)
    → new.list.items ≡ put_among s entry whole.list.items → IsKeptNow s entry old (Whole new)
put-in-full {s} {entry} old whole new small all is f g own others h =
    subst (λ (list : List WholeStream). AreListed g list) (sym is)
    (put-listed s entry f g small own others whole.list.items (all f h))
