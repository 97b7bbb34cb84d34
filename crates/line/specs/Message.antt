-- Messages, bags and their written order (document 01, "What the engine holds" and "The block").
use Rattle.std.specs.Prelude.{ℕ, Bool, ◌&&◌, ◌||◌, List, eqb, ltb}
use Rattle.line.specs.declared.Content.{Content}
use Rattle.line.specs.declared.Content.TheVariants.{Introduction, RemoveLeft, RemoveRight}
use Rattle.line.specs.declared.Message.{Message}
use Rattle.line.specs.declared.Side.{Side}
use Rattle.line.specs.declared.Side.TheVariants.{Left, Right}
use Rattle.lists.specs.Lists.{any, count, insert, remove_first}

-- "a kind (2 bytes: 1 introduction, 2 remove-left, 3 remove-right)"
abbrev pub kind : Content → ℕ
kind (Introduction n) = 1
kind RemoveLeft = 2
kind RemoveRight = 3

-- "a number (4 bytes: 1 to 999,999 for kind 1, 0 for kinds 2 and 3)"
abbrev pub carried : Content → ℕ
carried (Introduction n) = n
carried RemoveLeft = 0
carried RemoveRight = 0

abbrev pub introduction : ℕ → Message
introduction n = record { content = Introduction n }

-- remove-left or remove-right
unfoldable pub removal : Side → Message
removal Left = record { content = RemoveLeft }
removal Right = record { content = RemoveRight }

-- m and k are copies of one message
unfoldable pub same : Message → Message → Bool
same m k = eqb (kind m.content) (kind k.content) && eqb (carried m.content) (carried k.content)

-- "a remove-left or remove-right" (document 02, T-04)
unfoldable pub is_removal : Message → Bool
is_removal m = same (removal Left) m || same (removal Right) m

-- written order: "messages by kind and then by number"
unfoldable pub precedes : Message → Message → Bool
precedes m k =
    ltb (kind m.content) (kind k.content)
    || (eqb (kind m.content) (kind k.content) && ltb (carried m.content) (carried k.content))

-- A bag is a list of messages: "a bag may hold equal messages and every copy counts".
abbrev pub copies : Message → List Message → ℕ
copies m b = count (same m) b

abbrev pub holds : Message → List Message → Bool
holds m b = any (same m) b

-- one copy goes; a bag that holds none stays as it is
abbrev pub remove : Message → List Message → List Message
remove m b = remove_first (same m) b

-- one message more, in written order
abbrev pub put : Message → List Message → List Message
put m b = insert precedes m b

-- "The capacity of 32 is ours; the report has none."
abbrev pub capacity : ℕ
capacity = 32
