use Rattle.drain_cli.proofs.RoundTrips.{answer_told, read_told, taken, whole_answer}
use Rattle.drain_cli.proofs.runs.run_header.read_header.Goals as goal

pub returns-clause-outcome : goal.returns-clause-outcome
returns-clause-outcome g c =
    let faults = c.read_body.ensures.faults in
    record {
      answer = answer_told _ _ c.in_ok-body.body.items c.as_slice.result.now c.parse_header.result c.as_slice.ensures.value c.in_ok-body.ensures.bytes c.parse_header.ensures.answer;
      faults = record { failures = faults.failures; interruptions = faults.interruptions; answered = faults.answered; exactly = read_told c.read_body.result c.in_ok-body.body c.parse_header.result _ c.in_ok-body.was faults.exactly };
    }

pub returns-clause-whole : goal.returns-clause-whole
returns-clause-whole g c = whole_answer c.as_slice.result.now c.parse_header.result c.parse_header.ensures.answer

pub returns-clause-within : goal.returns-clause-within
returns-clause-within g c = taken 65537 _ _ c.in_ok-body.body.items c.in_ok-body.ensures.bytes
