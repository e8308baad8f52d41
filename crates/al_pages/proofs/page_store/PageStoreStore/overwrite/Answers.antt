use Rattle.al_pages.specs.Tables.{object_at, with_word}
use Rattle.al_pages.proofs.Changes.{set_keeps_names}
use Rattle.al_pages.proofs.Overwriting.{overwritten_in}
use Rattle.al_pages.proofs.page_store.PageStoreStore.overwrite.Goals as goal

pub returns-clause-memory : goal.returns-clause-memory
returns-clause-memory c =
    overwritten_in c.args.self.now.objects c.overwrite.new.self c.args.self.now.locals c.args.obj c.args.at c.args.value
    c.overwrite.ensures.after c.overwrite.result c.overwrite.ensures.found

pub returns-clause-kept : goal.returns-clause-kept
returns-clause-kept c =
    set_keeps_names c.args.self.now.objects c.overwrite.new.self c.args.obj
    (with_word (object_at c.args.self.now.objects c.args.obj) c.args.at c.args.value) c.overwrite.ensures.after
