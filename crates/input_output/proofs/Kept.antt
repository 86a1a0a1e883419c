-- What is kept of a capture, read by read.
use Rattle.std.proofs.Common.{◌≡◌, ◌⊎◌, ◌∙◌, ℕ, zero, suc, ◌+◌, ◌^◌, ◌<◌, ◌≤◌, List, [], ◌++◌, length, take}
use Rattle.std.proofs.Common.{length-append, take_at, Option, Some, None, IfSome, inl, inr, sym, ap, subst}
use Rattle.std.proofs.Common.{Result, Ok, Err, IfErr, IfOk, IsErr, IsOk, OnErr, OnOk, arith, refl, rules, ◌∷◌}
use Rattle.std.specs.Io.{StartsWith, appended_bytes}
use Rattle.std.specs.Io.KnownBytes.{Consumes, IsAtEnd}
use Rattle.std.proofs.Transfers.{starts_with_length, starts_with_trans}
use Rattle.std.specs.Result.{result_and}
use Rattle.std.proofs.lemmas.Result.{on_ok_weaker}
use Rattle.std.proofs.lemmas.List.{append-nil, length-drop, take_all}
use Rattle.input_output.specs.Account.{IsReadToEnd, given, kept, reads}
use Rattle.input_output.specs.code.Reading.{HasConsumed, HasGrown, HasPassedOver, HasReadOn, HaveAnswered}
use Rattle.input_output.specs.code.Reading.{IsOpenBelow}
use Rattle.input_output.specs.code.Reading.{IsReadingFault}
use Rattle.input_output.specs.code.Reading.{IsSound, StandsForAll}
use Rattle.input_output.specs.Bytes.{WithRoom}
use Rattle.input_output.specs.Calls.{EndIn, failed, moved}
use Rattle.input_output.specs.code.Reads.{AreCallsIn, Gives, HasCalled, HasRead, IsGrown, IsStateAfter}
use Rattle.input_output.specs.declared.capture_reader.CaptureReader.{CaptureReader}
use Rattle.input_output.specs.declared.capture_reader.ReadState.{ReadState}
use Rattle.input_output.specs.declared.capture_reader.ReadState.TheVariants.{Open, Ended, Failed, LackedMemory}
use Rattle.input_output.specs.declared.fault.ReadFault.{ReadFault}
use Rattle.input_output.specs.declared.fault.ReadFault.TheVariants as fault
use Rattle.input_output.specs.declared.traced_reader.TracedReader.{TracedReader}
use Rattle.input_output.specs.declared.traced_reader.FailedRead.{FailedRead}
use Rattle.input_output.proofs.CallLemmas.{calls_after, end_in, gave as gave_by, gives-more, gives-trans}

-- what holds where an answer is good, of one that is
pub where_ok : {T E P : Type 0} (answer : Result T E) → IsOk answer → OnOk answer P → P
where_ok (Ok _) good is = is
where_ok (Err e) good is = cc

-- how many reads can follow at most, where so many bytes more are to be kept
abbrev pub reads_left : ReadState → ℕ → ℕ
reads_left Open more = suc more
reads_left Ended more = 0
reads_left Failed more = 0
reads_left LackedMemory more = 0

open_or_ended : (state : ReadState) → state ≡ Open → state ≡ Ended → ⊥
open_or_ended state unended ended = cc

good_or_not : (read : Result ℕ FailedRead) (n : ℕ) → read ≡ Ok n → IsErr read → ⊥
good_or_not read n good failing = search rules

-- what the state after a read tells of how many bytes it gave
no_bytes : (n : ℕ) (state : ReadState) → IsStateAfter n state → state ≡ Ended → n ≡ 0
no_bytes zero state after ended = refl
no_bytes (suc n) state after ended = absurd (open_or_ended state (after.unended (omega arith)) ended)

some_more : (old new : List ℕ) (n : ℕ) (state : ReadState) → StartsWith new old → length (appended_bytes old new) ≡ n
    → IsStateAfter n state → state ≡ Open → length old < length new
some_more old new zero state front count after unended = absurd (open_or_ended state unended (after.ended refl))
some_more old new (suc n) state front count after unended =
    omega (arith, count, length-drop (length old) new, starts_with_length new old front)

well_after : (n : ℕ) (state : ReadState) → IsStateAfter n state → (state ≡ Open) ⊎ (state ≡ Ended)
well_after zero state after = inr (after.ended refl)
well_after (suc n) state after = inl (after.unended (omega arith))

module _ {R : Type 0} where
  -- reads that are kept, and what the last of them answered
  pub record IsReading (left : R → Option (List ℕ)) (limit : ℕ) (first now : CaptureReader R)
      (read : Result (Unit {0}) ReadFault) : Type 0 where
    pub grown : HasGrown limit (kept first) now
    pub sound : OnOk read (IsSound now)
    pub end : OnOk read (now.state ≡ Ended → IsAtEnd (left now.source.reader))
    pub bytes : OnOk read (HasConsumed left first now)
    pub err : IfErr read (λ e. IsReadingFault e now)

  -- where a read can follow, the last one went well
  pub went_well : {P : Type 0} (reader : CaptureReader R) (read : Result (Unit {0}) ReadFault) → reader.state ≡ Open
      → IfErr read (λ e. IsReadingFault e reader) → OnOk read P → P
  went_well reader (Ok _) unended err is = is
  went_well reader (Err (fault.Failed made)) unended err is = cc
  went_well reader (Err fault.OutOfMemory) unended err is = cc

  -- and more of them
  pub read_more : (left : R → Option (List ℕ)) (limit : ℕ) (first old new : CaptureReader R)
      → HasGrown limit (kept first) old → HasConsumed left first old → HasGrown limit (kept old) new
      → HasReadOn left old.source (kept old) new → HasReadOn left first.source (kept first) new
  read_more left limit first old new before bytes grown read = record {
    bytes = gives-more left first.source old.source new.source (kept first) (kept old) (kept new) before.front
        grown.front bytes read.bytes;
    end = read.end;
    more = λ on. omega (arith, read.more on, starts_with_length (kept old) (kept first) before.front);
    sound = read.sound;
  }

  pub grown_more : (limit : ℕ) (first old new : CaptureReader R) → HasGrown limit (kept first) old
      → HasGrown limit (kept old) new → HasGrown limit (kept first) new
  grown_more limit first old new before grown =
      let front = starts_with_trans (kept new) (kept old) (kept first) grown.front before.front in
      grind (arith, grown, front)

  pub answered_more : (left : R → Option (List ℕ)) (limit : ℕ) (first old new : CaptureReader R)
      (read : Result (Unit {0}) ReadFault) → HasGrown limit (kept first) old → HasConsumed left first old
      → HaveAnswered left limit old.source (kept old) new read
      → HaveAnswered left limit first.source (kept first) new read
  answered_more left limit first old new read before bytes answered = record {
    grown = grown_more limit first old new before answered.grown;
    read = on_ok_weaker read (read_more left limit first old new before bytes answered.grown) answered.read;
    err = answered.err;
  }

  -- what one read answered, with what it left; `before` is the reader once there was room for a byte
  pub answered_once : (left : R → Option (List ℕ)) (limit : ℕ) (old before : CaptureReader R) (source : TracedReader R)
      (bytes : WithRoom) (state : ReadState) (read : Result ℕ FailedRead) (entered : Result ℕ ReadFault)
      (answer : Result (Unit {0}) ReadFault) → IsOpenBelow limit old → before.source ≡ old.source
      → kept before ≡ kept old → before.passed ≡ old.passed → before.bytes.room ≤ limit → IsGrown before.bytes bytes
      → IfOk read (HasRead left before.source source (appended_bytes (kept before) bytes.kept))
      → OnErr read (HasCalled before.source source failed) → IfOk entered (λ n. read ≡ Ok n)
      → IfOk entered (λ n. IsStateAfter n state) → IfErr entered (λ e. IfErr read (λ made. e ≡ fault.Failed made))
      → OnErr entered (IsErr read × (state ≡ Failed)) → answer ≡ result_and entered (Ok tt)
      → HaveAnswered left limit old.source (kept old)
      (record before { source = source; bytes = bytes; state = state }) answer
  answered_once left limit old before source bytes state read (Ok n) answer on same stays unpassed room grown gave
      called is after fails failing both =
      let given = rw is at gave in
      let calls : AreCallsIn Open old.source.calls.list = rw on.within.state at on.within.sound.calls in
      let made : HasCalled old.source source (moved (appended_bytes (kept before) bytes.kept)) =
      rw same at given.called in
      let more : Gives left old.source source (appended_bytes (kept before) bytes.kept) =
      (rw same at given.bytes, gave_by old.source source _ made) in record {
        grown = record {
          front = rw stays at grown.front;
          room = omega (arith, grown.room, room);
          unpassed = unpassed ∙ on.within.unpassed;
        };
        read = rw both (record {
          bytes = rw stays at more;
          end = λ ended. given.end (no_bytes n state after ended);
          more = λ unended. some_more (kept old) bytes.kept n state (rw stays at grown.front)
              (rw stays at given.count) after unended;
          sound = record {
            within = omega (arith, grown.within);
            limit = omega (arith, grown.within, grown.room, room, on.within.most, unpassed, on.within.unpassed);
            well = well_after n state after;
            calls = calls_after old.source.calls.list source.calls.list _ n state calls made given.count after;
          };
        });
        err = rw both tt;
      }
  answered_once left limit old before source bytes state (Ok m) (Err e) answer on same stays unpassed room grown gave
      called is after fails failing both = absurd (good_or_not (Ok m) m refl failing.0)
  answered_once left limit old before source bytes state (Err made) (Err e) answer on same stays unpassed room grown
      gave called is after fails failing both =
      let calls : AreCallsIn Open old.source.calls.list = rw on.within.state at on.within.sound.calls in record {
        grown = record {
          front = rw stays at grown.front;
          room = omega (arith, grown.room, room);
          unpassed = unpassed ∙ on.within.unpassed;
        };
        read = rw both tt;
        err = rw (both, fails)
            (failing.1, subst (EndIn (failed ∷ [])) (sym (rw same at called)) (end_in _ failed calls));
      }

  pub read_on : (left : R → Option (List ℕ)) (limit : ℕ) (first old new : CaptureReader R)
      (last read : Result (Unit {0}) ReadFault) → IsReading left limit first old last → old.state ≡ Open
      → HaveAnswered left limit old.source (kept old) new read → IsReading left limit first new read
  read_on left limit first old new last read on unended answered =
      let all = answered_more left limit first old new read on.grown (went_well old last unended on.err on.bytes)
      answered in record {
        grown = all.grown;
        sound = on_ok_weaker read (λ more. more.sound) all.read;
        end = on_ok_weaker read (λ more. more.end) all.read;
        bytes = on_ok_weaker read (λ more. more.bytes) all.read;
        err = all.err;
      }

  -- what was passed over, and then one read more
  pub passed_more : (left : R → Option (List ℕ)) (first old new : CaptureReader R) (given : List ℕ) (n : ℕ)
      → HasPassedOver left first old → new.passed ≡ old.passed + n → HasRead left old.source new.source given n
      → HasPassedOver left first new
  passed_more left first old new given n (before, size, is) grown read = (
    before ++ given,
    omega (arith, size, grown, read.count, length-append before given),
    gives-trans left first.source old.source new.source before given is
        (read.bytes, gave_by old.source new.source given read.called),
  )

  -- reads of which nothing is kept, and a walk that was fed what they gave
  pub record IsLettingGo {W : Type 0} (P : List ℕ → W → Type 0) (left : R → Option (List ℕ))
      (first now : CaptureReader R) (walk : W) : Type 0 where
    pub sound : IsSound now
    pub state : now.state ≡ Open
    pub kept : now.bytes ≡ first.bytes
    pub bytes : HasPassedOver left first now
    pub fed : StandsForAll P now walk

  -- and one more of them, which gave bytes
  pub let_go_more : {W : Type 0} (P : List ℕ → W → Type 0) (left : R → Option (List ℕ))
      (first old new : CaptureReader R) (walk next : W) (more : List ℕ) (n : ℕ) → IsLettingGo P left first old walk
      → 0 < n → new.bytes ≡ old.bytes → length (kept new) + new.passed ≤ 2 ^ 31 → new.passed ≡ old.passed + n
      → HasRead left old.source new.source more n → IsStateAfter n new.state → AreCallsIn new.state (reads new)
      → P (given old ++ more) next → IsLettingGo P left first new next
  let_go_more P left first old new walk next more n on some same limit grown read after calls is =
      let gave : given new ≡ given old ++ more = gave_by old.source new.source more read.called in
      let size : length (kept new) ≡ length (kept old) = ap (λ (b : WithRoom). length b.kept) same in
      let room : new.bytes.room ≡ old.bytes.room = ap (λ (b : WithRoom). b.room) same in record {
        sound = record {
          within = omega (arith, size, room, on.sound.within);
          limit = limit;
          well = inl (after.unended some);
          calls = calls;
        };
        state = after.unended some;
        kept = same ∙ on.kept;
        bytes = passed_more left first old new more n on.bytes grown read;
        fed = record {
          stands = subst (λ bytes. P bytes next) (sym gave) is;
          counted = omega
              (arith, on.fed.counted, size, grown, read.count, ap length gave, length-append (given old) more);
        };
      }

  -- at the end the reads gave all of the reader's bytes, or 2^31 of them
  pub gave_front : (a b : Option (List ℕ)) (reader : CaptureReader R) → Consumes a b (given reader) → IsSound reader
      → length (given reader) ≡ length (kept reader) + reader.passed
      → (reader.state ≡ Open → length (kept reader) + reader.passed ≡ 2 ^ 31) → (reader.state ≡ Ended → IsAtEnd b)
      → IfSome a (λ all. given reader ≡ take (2 ^ 31) all)
  gave_front None b reader is sound size whole ends = tt
  gave_front (Some all) None reader is sound size whole ends = absurd is
  gave_front (Some all) (Some rest) reader is sound size whole ends = sym (elim sound.well [
    | inl unended ↦ ap (take (2 ^ 31)) is ∙ take_at (given reader) rest (2 ^ 31) (omega (arith, size, whole unended))
    | inr ended ↦
        ap (take (2 ^ 31)) (is ∙ ap (λ r. given reader ++ r) (ends ended) ∙ append-nil (given reader))
        ∙ take_all (2 ^ 31) (given reader) (omega (arith, size, sound.limit))
  ])

  pub read_to_end : (reader : CaptureReader R) → IsSound reader
      → length (given reader) ≡ length (kept reader) + reader.passed
      → (reader.state ≡ Open → length (kept reader) + reader.passed ≡ 2 ^ 31) → IsReadToEnd reader
  read_to_end reader sound size whole = elim sound.well [
    | inl unended ↦ inr (unended, rw unended at sound.calls, size ∙ whole unended)
    | inr ended ↦ inl (ended, rw ended at sound.calls)
  ]
