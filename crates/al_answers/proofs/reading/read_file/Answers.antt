use Rattle.al_answers.proofs.Comings.{comes_unread, comes_absent, is_that_fault, not_failed}
use Rattle.al_answers.proofs.reading.read_file.Goals as goal

pub returns-in_ok-unread-in-Err-Failed-clause-ok : goal.returns-in_ok-unread-in-Err-Failed-clause-ok
returns-in_ok-unread-in-Err-Failed-clause-ok g c =
    comes_unread c.args.name.now c.as_bytes.result.now c.args.most _ _ c.in_ok-unread-in-Err-Failed.field-0 c.as_bytes.ensures.value
    (record { contents = c.in-Err-Failed.ensures.contents; calls = c.in-Err-Failed.ensures.calls; faults = c.in-Err-Failed.ensures.faults })
    (c.in-Err-Failed.ensures.failed (is_that_fault c.in-Err-Failed.field-0 _ c.in-Err-Failed.field-0-is)) c.in_ok-unread-in-Err-Failed.ensures

pub returns-in_ok-absent-in-Err-NoSuch-clause-ok : goal.returns-in_ok-absent-in-Err-NoSuch-clause-ok
returns-in_ok-absent-in-Err-NoSuch-clause-ok g c =
    comes_absent c.args.name.now c.as_bytes-in-Err-NoSuch.result.now c.args.most _ _ c.in_ok-absent-in-Err-NoSuch.field-0 c.as_bytes-in-Err-NoSuch.ensures.value
    (record {
      contents = c.in-Err-NoSuch.ensures.contents;
      calls = c.in-Err-NoSuch.ensures.calls;
      faults = c.in-Err-NoSuch.ensures.no_fault
          (not_failed c.in-Err-NoSuch.field-0 c.in-Err-NoSuch.field-0-is);
    })
    (c.in-Err-NoSuch.ensures.no_such (is_that_fault c.in-Err-NoSuch.field-0 _ c.in-Err-NoSuch.field-0-is)) c.in_ok-absent-in-Err-NoSuch.ensures
