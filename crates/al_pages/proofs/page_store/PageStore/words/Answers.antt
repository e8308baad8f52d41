use Rattle.std.proofs.Common.{sym, ◌∙◌}
use Rattle.al_pages.proofs.Lookups.{get_object}
use Rattle.al_pages.proofs.page_store.PageStore.words.Goals as goal

pub returns : goal.returns
returns c = c.get.ensures ∙ sym (get_object c.args.self.now.objects c.args.obj)
