-- The line of a connection: who opened it, where, and what its flows hold.
use Rattle.std.specs.Prelude.{ℕ, List, ◌++◌, length, codes}
use Rattle.audit_report.specs.Endpoint.{endpoint_text}
use Rattle.audit_report.specs.Line.{line, field}
use Rattle.h2_frames.specs.declared.cuts.Cut.{Cut}
use Rattle.h2_frames.specs.declared.cuts.Cut.TheVariants.{Http2, NotHttp2, NoPreface, NoHandshake}
use Rattle.tcp_streams.specs.declared.members.Connection.{Connection}

-- `http2 frames M` counts all frames, audited or not
abbrev pub contents_text : Cut → List ℕ
contents_text (Http2 frames tails) = field (codes "http2 frames ") (length frames.items)
contents_text NotHttp2 = codes "not-http2"
contents_text NoPreface = codes "no-preface"
contents_text NoHandshake = codes "no-handshake"

-- `connection K client ENDPOINT server ENDPOINT record N`; N is the record of the opening
abbrev pub heading_text : (k : ℕ) → Connection → List ℕ
heading_text k connection = field (codes "connection ") k ++ codes " client " ++ endpoint_text connection.client
    ++ codes " server " ++ endpoint_text connection.server ++ field (codes " record ") connection.rec

-- the same, and what the connection's flows hold
abbrev pub connection_line : (k : ℕ) → Connection → Cut → List ℕ
connection_line k connection cut = line (heading_text k connection ++ codes " " ++ contents_text cut)
