use Rattle.quiet_pass.proofs.connection_findings.ConnectionFindings.finish.Goals as goal

pub returns-clause-found : goal.returns-clause-found
returns-clause-found g c = λ opening sent last has capture client server sent-in flows.
    let all = c.in_ok-handed.ensures.handed opening sent last has capture client server sent-in flows in record {
      cut = c.found.ensures client server all.ending;
      client_end = all.client_end;
      server_end = all.server_end;
    }

pub returns-clause-flows : goal.returns-clause-flows
returns-clause-flows g c = c.in_ok-handed.ensures.flows
