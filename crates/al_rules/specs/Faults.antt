-- What each fault is to the definitions: a cause, but for want of memory.
use Rattle.std.specs.Prelude.{Option, Some, None}
use Rattle.al_source.specs.declared.faults.LexFault.{LexFault}
use Rattle.al_source.specs.declared.faults.LexFault.TheVariants as lex
use Rattle.al_rules.specs.declared.faults.LexicalCause.{LexicalCause}
use Rattle.al_rules.specs.declared.faults.LexicalCause.TheVariants as lexical
use Rattle.al_rules.specs.declared.faults.LayoutFault.{LayoutFault}
use Rattle.al_rules.specs.declared.faults.LayoutFault.TheVariants as layout
use Rattle.al_rules.specs.declared.faults.LayoutCause.{LayoutCause}
use Rattle.al_rules.specs.declared.faults.LayoutCause.TheVariants as sizes
use Rattle.al_rules.specs.declared.faults.TypeFault.{TypeFault}
use Rattle.al_rules.specs.declared.faults.TypeFault.TheVariants as type
use Rattle.al_rules.specs.declared.faults.TypeCause.{TypeCause}
use Rattle.al_rules.specs.declared.faults.NoteFault.{NoteFault}
use Rattle.al_rules.specs.declared.faults.NoteFault.TheVariants as note
use Rattle.al_rules.specs.declared.faults.NoteCause.{NoteCause}

abbrev pub spelled : LexFault → Option LexicalCause
spelled lex.TooLong = Some lexical.TooLong
spelled (lex.BadByte line) = Some (lexical.BadByte line)
spelled (lex.BadNumber line) = Some (lexical.BadNumber line)
spelled (lex.BadText line) = Some (lexical.BadText line)
spelled (lex.OpenComment line) = Some (lexical.OpenComment line)
spelled lex.Memory = None

abbrev pub laid : LayoutFault → Option LayoutCause
laid (layout.SelfHolding line) = Some (sizes.SelfHolding line)
laid (layout.TooLarge line) = Some (sizes.TooLarge line)
laid layout.Memory = None

abbrev pub typed : TypeFault → Option TypeCause
typed (type.At kind line) = Some (record { kind = kind; line = line })
typed type.Memory = None

abbrev pub noted : NoteFault → Option NoteCause
noted (note.At kind line) = Some (record { kind = kind; line = line })
noted note.Memory = None
