-- What the calls tell of the bytes that were read and written, whatever the reader and the writer are.
use Rattle.std.specs.Prelude.{◌≡◌, ◌⊎◌, ℕ, ◌^◌, List, [], ◌∷◌, length}
use Rattle.input_output.specs.Calls.{Call, EndIn, bytes_moved, failed, flushed, moved}
use Rattle.input_output.specs.declared.capture_reader.CaptureReader.{CaptureReader}
use Rattle.input_output.specs.declared.capture_reader.ReadState.TheVariants.{Open, Ended, Failed}
use Rattle.input_output.specs.declared.report_writer.ReportWriter.{ReportWriter}

module _ {R : Type 0} where
  -- the calls of the reader
  abbrev pub reads : CaptureReader R → List Call
  reads reader = reader.source.calls.list

  -- the bytes that the reads gave, in order
  abbrev pub given : CaptureReader R → List ℕ
  given reader = bytes_moved (reads reader)

  -- those that are kept
  abbrev pub kept : CaptureReader R → List ℕ
  kept reader = reader.bytes.kept

  -- no read was made
  pub record IsUnread (reader : CaptureReader R) : Type 0 where
    pub reads : reader.source.calls.list ≡ []
    pub kept : reader.bytes.kept ≡ []
    pub room : reader.bytes.room ≡ 0
    pub passed : reader.passed ≡ 0
    pub state : reader.state ≡ Open

  -- each read gave bytes, to the end of the capture, at which the last one gave none, or until they gave 2^31 bytes;
  -- and no memory was wanting
  abbrev pub IsReadToEnd : CaptureReader R → Type 0
  IsReadToEnd reader = ((reader.state ≡ Ended) × EndIn (moved [] ∷ []) (reads reader))
      ⊎ ((reader.state ≡ Open) × EndIn [] (reads reader) × (length (given reader) ≡ 2 ^ 31))

  -- the last read failed, and no memory was wanting
  abbrev pub HasReadFailed : CaptureReader R → Type 0
  HasReadFailed reader = (reader.state ≡ Failed) × EndIn (failed ∷ []) (reads reader)

module _ {W : Type 0} where
  -- the calls of the writer
  abbrev pub writes : ReportWriter W → List Call
  writes writer = writer.calls.list

  -- the bytes that the writes took, in order
  abbrev pub written : ReportWriter W → List ℕ
  written writer = bytes_moved (writes writer)

  -- no write was made, and no flush
  abbrev pub IsUnwritten : ReportWriter W → Type 0
  IsUnwritten writer = writes writer ≡ []

  -- each write took bytes, and one flush after them went well
  abbrev pub IsFlushed : ReportWriter W → Type 0
  IsFlushed writer = EndIn (flushed ∷ []) (writes writer)

  -- the last call, a write or the flush, failed or took no byte
  abbrev pub HasWriteFailed : ReportWriter W → Type 0
  HasWriteFailed writer = EndIn (failed ∷ []) (writes writer) ⊎ EndIn (moved [] ∷ []) (writes writer)
