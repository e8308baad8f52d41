use Rattle.std.proofs.Common.{ap, ◌∙◌}
use Rattle.al_pages.specs.Tables.{object_at, objects_of, with_word}
use Rattle.al_pages.proofs.Changes.{word_replaced, set_keeps_names}
use Rattle.al_pages.proofs.page_store.PageStoreStore.put_word.Goals as goal

pub returns-clause-memory : goal.returns-clause-memory
returns-clause-memory c =
    λ t. record {
      objects =
          (ap objects_of c.overwrite.ensures.after
          ∙ word_replaced c.args.self.now.objects c.args.obj c.args.at c.args.value) t;
      locals = c.args.self.now.locals;
    }

pub returns-clause-kept : goal.returns-clause-kept
returns-clause-kept c =
    set_keeps_names c.args.self.now.objects c.overwrite.new.self c.args.obj
    (with_word (object_at c.args.self.now.objects c.args.obj) c.args.at c.args.value) c.overwrite.ensures.after
