-- Each promise, from the outcome of the call.
use Rattle.std.proofs.Common.{ℕ, List}
use Rattle.al_answers.specs.Calls.{Call}
use Rattle.al_answers.specs.Outcome.{Outcome}
use Rattle.al_answers.proofs.Outcomes.{is_as_played, is_as_told, is_planned, has_status, fault_gives, out_gives, err_gives, unread_writes, five_is_unwritten, four_is_unread, starved_writes, cut_writes, cut_unread_writes, reads_few, reads_as_told, put_out_once, put_err_once, no_put_out, no_put_err, no_put_unread}
use Rattle.al_cli.specs.Promises.{Promises}
use Rattle.al_cli.specs.Shown.{names_of, plan}
use Rattle.al_cli.specs.Why.{Why}
use Rattle.al_cli.proofs.Plans.{every_why, own_statuses, in_order}
use Rattle.al_cli.proofs.Clauses.{headline, table, bad_token, complete, words_give}
use Rattle.al_cli.proofs.LockstepRounds.{lockstep_fits}
use Rattle.al_cli.proofs.SerialRuns.{serial, in_order as as_plain}

module _ (words : List (List ℕ)) (c : Call) (outcome : Outcome (plan words) c) where
  pub promised : Promises words c
  promised =
      let f = c.files.before in
      let g = c.files.after in
      let o = c.out.before in
      let p = c.out.after in
      let e = c.err.before in
      let q = c.err.after in
      let w = plan words in
      let s = c.status in
      let own = own_statuses words in
      let order = in_order words in
      record {
        headline = λ job program inputs is quiet fed. headline words f g o p e q s outcome job program inputs is quiet.files quiet.out quiet.err fed;
        table = λ job k program inputs is quiet fed there.
            table words f g o p e q s outcome job k program inputs is quiet.files quiet.out quiet.err fed there;
        serial = λ job program inputs is look quiet fed.
            serial words f g o p e q s outcome job program inputs is look quiet.files quiet.out quiet.err fed;
        in_order = λ job program inputs is look ordered quiet fed.
            as_plain words f g o p e q s outcome job program inputs is look ordered quiet.files quiet.out quiet.err fed;
        rounds = λ job program input is. lockstep_fits program input job.knobs;
        shows = λ quiet fed. is_as_played w f g o p e q s outcome quiet.files quiet.out quiet.err fed;
        bad_token = λ job source bad is h quiet fed. bad_token words f g o p e q s outcome job source bad is h quiet.files quiet.out quiet.err fed;
        complete = λ quiet. complete words f g o p e q s outcome quiet.files quiet.out quiet.err;
        statuses = has_status w f g o p e q own s outcome;
        why = λ answered. is_planned w f g o p e q (Why words) (every_why words) s outcome answered.read answered.written answered.fed;
        told = λ answered. is_as_told w f g o p e q s outcome answered.read answered.written answered.fed;
        words_refused = words_give words f g o p e q s outcome;
        not_read = four_is_unread w f g o p e q own (names_of words) order s outcome;
        not_written = five_is_unwritten w f g o p e q own s outcome;
        starved = starved_writes w f g o p e q own s outcome;
        file_fault = fault_gives w f g o p e q (names_of words) order s outcome;
        out_fault = out_gives w f g o p e q s outcome;
        err_fault = err_gives w f g o p e q s outcome;
        unread_text = unread_writes w f g o p e q (names_of words) order s outcome;
        cut = cut_writes w f g o p e q own s outcome;
        cut_unread = cut_unread_writes w f g o p e q own (names_of words) order s outcome;
        reads = reads_few w f g o p e q (names_of words) order s outcome;
        reads_told = reads_as_told w f g o p e q s outcome;
        out_puts = put_out_once w f g o p e q s outcome;
        err_puts = put_err_once w f g o p e q s outcome;
        no_out_put = no_put_out w f g o p e q s outcome;
        no_err_put = no_put_err w f g o p e q s outcome;
        no_out_put_unread = no_put_unread w f g o p e q (names_of words) order s outcome;
      }
