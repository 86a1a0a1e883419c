use Rattle.std.proofs.Common.{Ok, take}
use Rattle.std.specs.List.{flat_map}
use Rattle.input_output.specs.declared.report_writer.WriteFault.{WriteFault}
use Rattle.report_pages.specs.code.Written.{HasWritten}
use Rattle.report_pages.proofs.writing.write_pages.Given as goal

-- the pages so far are written
abbrev pub invariant-loop-page : goal.invariant-loop-page
invariant-loop-page g l = HasWritten {E = WriteFault} g.W.Write.contents l.initial.writer l.writer
    (flat_map (λ page. page.items) (take l.page-index l.pages)) (Ok tt)
