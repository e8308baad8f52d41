-- The reserved words and the marks by their bytes.
use Rattle.std.specs.Prelude.{Option, find, nat_eq, codes}
use Rattle.std.specs.List.{starts_with}
use Rattle.std.specs.Str.{bytes_eq}
use Rattle.al_source.specs.declared.tokens.Key.{Key}
use Rattle.al_source.specs.declared.tokens.Key.TheVariants as key
use Rattle.al_source.specs.declared.tokens.Mark.{Mark}
use Rattle.al_source.specs.declared.tokens.Mark.TheVariants as mark
use Rattle.al_grammar.specs.declared.words.TheConstants.{KEYS, MARKS}
use Rattle.al_grammar.specs.Characters.{Bytes}

abbrev pub key_text : Key → Bytes
key_text key.Auto = codes "auto"
key_text key.Break = codes "break"
key_text key.Case = codes "case"
key_text key.Char = codes "char"
key_text key.Const = codes "const"
key_text key.Continue = codes "continue"
key_text key.Default = codes "default"
key_text key.Do = codes "do"
key_text key.Double = codes "double"
key_text key.Else = codes "else"
key_text key.Enum = codes "enum"
key_text key.Extern = codes "extern"
key_text key.Float = codes "float"
key_text key.For = codes "for"
key_text key.Goto = codes "goto"
key_text key.If = codes "if"
key_text key.Inline = codes "inline"
key_text key.Int = codes "int"
key_text key.Long = codes "long"
key_text key.Register = codes "register"
key_text key.Restrict = codes "restrict"
key_text key.Return = codes "return"
key_text key.Short = codes "short"
key_text key.Signed = codes "signed"
key_text key.Sizeof = codes "sizeof"
key_text key.Static = codes "static"
key_text key.Struct = codes "struct"
key_text key.Switch = codes "switch"
key_text key.Typedef = codes "typedef"
key_text key.Union = codes "union"
key_text key.Unsigned = codes "unsigned"
key_text key.Void = codes "void"
key_text key.Volatile = codes "volatile"
key_text key.While = codes "while"
key_text key.Bool = codes "_Bool"
key_text key.Complex = codes "_Complex"
key_text key.Imaginary = codes "_Imaginary"
key_text key.Null = codes "NULL"
key_text key.Printf = codes "printf"
key_text key.Calloc = codes "calloc"
key_text key.Free = codes "free"

abbrev pub mark_text : Mark → Bytes
mark_text mark.LeftParen = codes "("
mark_text mark.RightParen = codes ")"
mark_text mark.LeftBracket = codes "["
mark_text mark.RightBracket = codes "]"
mark_text mark.LeftBrace = codes "{"
mark_text mark.RightBrace = codes "}"
mark_text mark.Semicolon = codes ";"
mark_text mark.Comma = codes ","
mark_text mark.Dot = codes "."
mark_text mark.Colon = codes ":"
mark_text mark.Arrow = codes "->"
mark_text mark.Assign = codes "="
mark_text mark.PlusAssign = codes "+="
mark_text mark.MinusAssign = codes "-="
mark_text mark.StarAssign = codes "*="
mark_text mark.SlashAssign = codes "/="
mark_text mark.PercentAssign = codes "%="
mark_text mark.AmpersandAssign = codes "&="
mark_text mark.PipeAssign = codes "|="
mark_text mark.CaretAssign = codes "^="
mark_text mark.ShiftLeftAssign = codes "<<="
mark_text mark.ShiftRightAssign = codes ">>="
mark_text mark.Increment = codes "++"
mark_text mark.Decrement = codes "--"
mark_text mark.Plus = codes "+"
mark_text mark.Minus = codes "-"
mark_text mark.Star = codes "*"
mark_text mark.Slash = codes "/"
mark_text mark.Percent = codes "%"
mark_text mark.Tilde = codes "~"
mark_text mark.Bang = codes "!"
mark_text mark.Ampersand = codes "&"
mark_text mark.Pipe = codes "|"
mark_text mark.Caret = codes "^"
mark_text mark.AndAnd = codes "&&"
mark_text mark.OrOr = codes "||"
mark_text mark.ShiftLeft = codes "<<"
mark_text mark.ShiftRight = codes ">>"
mark_text mark.Less = codes "<"
mark_text mark.LessEqual = codes "<="
mark_text mark.Greater = codes ">"
mark_text mark.GreaterEqual = codes ">="
mark_text mark.EqualEqual = codes "=="
mark_text mark.NotEqual = codes "!="

-- the reserved word that a name is
unfoldable pub key_of : Bytes → Option Key
key_of word = find (λ k. bytes_eq (key_text k) word) KEYS

-- the longest mark that a text begins with
unfoldable pub mark_at : Bytes → Option Mark
mark_at z = find (λ m. starts_with nat_eq z (mark_text m)) MARKS
