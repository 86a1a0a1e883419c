-- The headings of connections' sections.
use Rattle.audit_report.specs.declared.headings.SectionHeading.{SectionHeading}
use Rattle.tcp_streams.specs.declared.members.Connection.{Connection}

-- what the first line of its section says of the opening of a connection
abbrev pub heading_of : Connection → SectionHeading
heading_of connection = record { client = connection.client; server = connection.server; rec = connection.rec }
