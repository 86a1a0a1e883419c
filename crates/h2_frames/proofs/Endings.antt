-- What a cutter tells at its end is the cut of the two flows.
use Rattle.std.proofs.Common.{List, ap, length, subst, sym, ◌∙◌}
use Rattle.std.proofs.lemmas.Bool.{false≢true}
use Rattle.h2_frames.proofs.Uniqueness.{not_both, one_http2}
use Rattle.h2_frames.proofs.Words.{Frame}
use Rattle.h2_frames.specs.declared.connection.Ending.TheVariants.{Http2, NoHandshake, NoPreface, NotHttp2}
use Rattle.h2_frames.specs.declared.cuts.Cut.TheVariants.{Http2 as CutHttp2, NoHandshake as CutNoHandshake}
use Rattle.h2_frames.specs.declared.cuts.Cut.TheVariants.{NoPreface as CutNoPreface, NotHttp2 as CutNotHttp2}
use Rattle.h2_frames.specs.laws.Endings.{EndingTellsTheCut}

module _ {V : Type 0} (after : List Frame → V → Type 0) where
  pub ending-tells : EndingTellsTheCut after
  ending-tells client server visitor (Http2 count tails) (CutHttp2 frames cut_tails) is cut =
      let same = one_http2 client server is.1.frames frames.items tails cut_tails is.1.http2 cut.1 in (
        subst (λ (l : List Frame). after l visitor) same.0 is.1.visited,
        is.1.counted ∙ ap length same.0,
        same.1,
      )
  ending-tells client server visitor (Http2 count tails) CutNotHttp2 is cut =
      absurd (cut.2 _ is.1.http2.client_begins)
  ending-tells client server visitor (Http2 count tails) CutNoPreface is cut =
      absurd (not_both _ _ cut.1 is.1.http2.client_begins)
  ending-tells client server visitor (Http2 count tails) CutNoHandshake is cut =
      absurd (false≢true (sym cut ∙ is.0))
  ending-tells client server visitor NotHttp2 (CutHttp2 frames cut_tails) is cut =
      absurd (is.2 _ cut.1.client_begins)
  ending-tells client server visitor NotHttp2 CutNotHttp2 is cut = tt
  ending-tells client server visitor NotHttp2 CutNoPreface is cut = absurd (is.1 cut.1)
  ending-tells client server visitor NotHttp2 CutNoHandshake is cut = absurd (false≢true (sym cut ∙ is.0))
  ending-tells client server visitor NoPreface (CutHttp2 frames cut_tails) is cut =
      absurd (not_both _ _ is.1 cut.1.client_begins)
  ending-tells client server visitor NoPreface CutNotHttp2 is cut = absurd (cut.1 is.1)
  ending-tells client server visitor NoPreface CutNoPreface is cut = tt
  ending-tells client server visitor NoPreface CutNoHandshake is cut = absurd (false≢true (sym cut ∙ is.0))
  ending-tells client server visitor NoHandshake (CutHttp2 frames cut_tails) is cut =
      absurd (false≢true (sym is ∙ cut.0))
  ending-tells client server visitor NoHandshake CutNotHttp2 is cut = absurd (false≢true (sym is ∙ cut.0))
  ending-tells client server visitor NoHandshake CutNoPreface is cut = absurd (false≢true (sym is ∙ cut.0))
  ending-tells client server visitor NoHandshake CutNoHandshake is cut = tt
