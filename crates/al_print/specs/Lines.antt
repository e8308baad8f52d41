-- Trees without their lines.
use Rattle.std.specs.Prelude.{map}
use Rattle.al_source.specs.declared.source_tree.Stmt.{Stmt, roll-Stmt, fold-Stmt}
use Rattle.al_source.specs.declared.source_tree.StmtKind.{StmtKind}
use Rattle.al_source.specs.declared.source_tree.StmtKind.TheViews.{roll-StmtKind}
use Rattle.al_source.specs.declared.source_tree.StmtKind.TheOpen.{Stmt-F, StmtKind-F}
use Rattle.al_source.specs.declared.source_tree.Item.{Item}
use Rattle.al_source.specs.declared.source_tree.Item.TheVariants as item
use Rattle.al_source.specs.declared.source_tree.Program.{Program}

abbrev pub kind_unlined : StmtKind-F StmtKind Stmt → StmtKind
kind_unlined k = roll-StmtKind k

abbrev pub statement_unlined : Stmt-F StmtKind Stmt → Stmt
statement_unlined s = roll-Stmt (record { line = 0; kind = s.kind })

-- a statement with its lines set to 0
unfoldable pub unlined : Stmt → Stmt
unlined = fold-Stmt StmtKind Stmt kind_unlined statement_unlined

abbrev pub unlined_item : Item → Item
unlined_item (item.Struct s) = item.Struct (record s { line = 0 })
unlined_item (item.Global g) = item.Global (record g { line = 0 })
unlined_item (item.Func f) =
    item.Func (record { name = f.name; result = f.result; params = f.params; body = map unlined f.body; line = 0 })

-- a program with its lines set to 0
abbrev pub without_lines : Program → Program
without_lines p = record { items = map unlined_item p.items }
