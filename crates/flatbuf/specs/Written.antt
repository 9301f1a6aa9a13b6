-- The one layout of a tree: where each object lies, and the bytes.
--
-- Objects are in preorder: an object, then those that its slots (or elements) refer to, each with all its own before
-- the next. A table's vtable begins at the next multiple of 8, the table at the next multiple of 8 after it; a field at
-- the next multiple of its width from the table's start; the count of a vector or string at the next position that is 4
-- modulo 8. All padding is zero. `at` is the position from which on an object is laid out, counted from the start of
-- the bytes. docs/ARCHITECTURE.md has a picture of it.
use Rattle.std.specs.Prelude.{◌≡◌, ℕ, ◌+◌, ◌*◌, ◌-◌, ◌/◌, ◌%◌, ◌^◌, ◌<◌, ◌≤◌, List, [], ◌∷◌, ◌++◌, length, replicate, ⊤}
use Rattle.byteorder.specs.Endian.{little_bytes}
use Rattle.flatbuf.specs.Tree.{Node, absent, number, text, structs, table, references, Nodes, no_nodes, node, count}

abbrev pub zeros : ℕ → List ℕ
zeros n = replicate n 0

-- the next multiple of w
abbrev pub up : ℕ → ℕ → ℕ
up w n = (n + (w - 1)) / w * w

-- the next position that is 4 modulo 8
abbrev pub up_count : ℕ → ℕ
up_count n = (n + 3) / 8 * 8 + 4

-- Fields inside a table. `c` counts from the table's start.

abbrev pub alignment : Node → ℕ
alignment absent = 1
alignment (number w n) = w
alignment (text xs) = 4
alignment (structs w xs) = 4
alignment (table s) = 4
alignment (references s) = 4

abbrev pub field_place : ℕ → Node → ℕ
field_place c x = up (alignment x) c

abbrev pub field_len : Node → ℕ
field_len absent = 0
field_len (number w n) = w
field_len (text xs) = 4
field_len (structs w xs) = 4
field_len (table s) = 4
field_len (references s) = 4

abbrev pub field_end : ℕ → Node → ℕ
field_end c x = field_place c x + field_len x

-- the size of the table whose fields from c on are these: the end of the last, up to a multiple of 4
abbrev pub fields_end : ℕ → Nodes → ℕ
fields_end c no_nodes = up 4 c
fields_end c (node x r) = fields_end (field_end c x) r

-- Positions of objects.

abbrev pub vtable_len : Nodes → ℕ
vtable_len s = 4 + 2 * count s

abbrev pub table_place : ℕ → Nodes → ℕ
table_place at s = up 8 (up 8 at + vtable_len s)

abbrev pub table_end : ℕ → Nodes → ℕ
table_end at s = table_place at s + fields_end 4 s

-- where the elements of a vector begin
abbrev pub items_place : ℕ → ℕ
items_place at = up_count at + 4

abbrev pub items_end : ℕ → Nodes → ℕ
items_end at s = items_place at + 4 * count s

-- the position to which a reference to the object points
abbrev pub object_place : ℕ → Node → ℕ
object_place at absent = at
object_place at (number w n) = at
object_place at (text xs) = up_count at
object_place at (structs w xs) = up_count at
object_place at (table s) = table_place at s
object_place at (references s) = up_count at

abbrev mutual
  pub object_end : ℕ → Node → ℕ
  object_end at absent = at
  object_end at (number w n) = at
  object_end at (text xs) = items_place at + length xs + 1
  object_end at (structs w xs) = items_place at + length xs
  object_end at (table s) = objects_end (table_end at s) s
  object_end at (references s) = objects_end (items_end at s) s

  pub objects_end : ℕ → Nodes → ℕ
  objects_end at no_nodes = at
  objects_end at (node x r) = objects_end (object_end at x) r

-- Bytes.

-- a field at position p, where its object is laid out from `at` on
abbrev pub content : ℕ → ℕ → Node → List ℕ
content p at absent = []
content p at (number w n) = little_bytes w n
content p at (text xs) = little_bytes 4 (object_place at (text xs) - p)
content p at (structs w xs) = little_bytes 4 (object_place at (structs w xs) - p)
content p at (table s) = little_bytes 4 (object_place at (table s) - p)
content p at (references s) = little_bytes 4 (object_place at (references s) - p)

-- the fields from c on of the table at position t
abbrev pub fields : ℕ → ℕ → ℕ → Nodes → List ℕ
fields t c at no_nodes = zeros (up 4 c - c)
fields t c at (node x r) =
    zeros (field_place c x - c) ++ (content (t + field_place c x) at x ++ fields t (field_end c x) (object_end at x) r)

-- the vtable's entry for a slot
abbrev pub entry : ℕ → Node → ℕ
entry c absent = 0
entry c (number w n) = field_place c (number w n)
entry c (text xs) = field_place c (text xs)
entry c (structs w xs) = field_place c (structs w xs)
entry c (table s) = field_place c (table s)
entry c (references s) = field_place c (references s)

abbrev pub entries : ℕ → Nodes → List ℕ
entries c no_nodes = []
entries c (node x r) = little_bytes 2 (entry c x) ++ entries (field_end c x) r

-- a vtable and its table
abbrev pub table_bytes : ℕ → Nodes → List ℕ
table_bytes at s =
    zeros (up 8 at - at) ++ (little_bytes 2 (vtable_len s) ++ (little_bytes 2 (fields_end 4 s) ++ (entries 4 s
    ++ (zeros (table_place at s - (up 8 at + vtable_len s)) ++ (little_bytes 4 (table_place at s - up 8 at)
    ++ fields (table_place at s) 4 (table_end at s) s)))))

-- the elements of a vector of references, the first at position p
abbrev pub elements : ℕ → ℕ → Nodes → List ℕ
elements p at no_nodes = []
elements p at (node x r) = little_bytes 4 (object_place at x - p) ++ elements (p + 4) (object_end at x) r

-- the padding before a vector or string, and its count
abbrev pub counted : ℕ → ℕ → List ℕ
counted at n = zeros (up_count at - at) ++ little_bytes 4 n

abbrev mutual
  pub object : ℕ → Node → List ℕ
  object at absent = []
  object at (number w n) = []
  object at (text xs) = counted at (length xs) ++ (xs ++ 0 ∷ [])
  object at (structs w xs) = counted at (length xs / w) ++ xs
  object at (table s) = table_bytes at s ++ objects (table_end at s) s
  object at (references s) =
      counted at (count s) ++ (elements (items_place at) (items_end at s) s ++ objects (items_end at s) s)

  pub objects : ℕ → Nodes → List ℕ
  objects at no_nodes = []
  objects at (node x r) = object at x ++ objects (object_end at x) r

-- the whole: the offset to the root table, the objects, zeros up to a multiple of 8
abbrev pub whole : Nodes → List ℕ
whole s =
    little_bytes 4 (table_place 4 s) ++ (object 4 (table s)
    ++ zeros (up 8 (object_end 4 (table s)) - object_end 4 (table s)))

-- Limits within which a tree can be written.

abbrev mutual
  -- the numbers fit their widths, the structs are whole, and tables fit their 16 bit sizes
  pub Fits : Node → Type 0
  Fits absent = ⊤
  Fits (number w n) = (1 ≤ w) × (w ≤ 8) × (n < 256 ^ w)
  Fits (text xs) = ⊤
  Fits (structs w xs) = (1 ≤ w) × (length xs % w ≡ 0)
  Fits (table s) = (vtable_len s < 2 ^ 16) × (fields_end 4 s < 2 ^ 16) × FitAll s
  Fits (references s) = FitAll s × AreReferences s

  pub FitAll : Nodes → Type 0
  FitAll no_nodes = ⊤
  FitAll (node x r) = Fits x × FitAll r

  pub AreReferences : Nodes → Type 0
  AreReferences no_nodes = ⊤
  AreReferences (node x r) = IsReference x × AreReferences r

  pub IsReference : Node → Type 0
  IsReference absent = ⊥
  IsReference (number w n) = ⊥
  IsReference (text xs) = ⊤
  IsReference (structs w xs) = ⊤
  IsReference (table s) = ⊤
  IsReference (references s) = ⊤

-- the tree can be written, with positions of 32 bits
pub record IsWritable (s : Nodes) : Type 0 where
  pub fits : Fits (table s)
  pub short : object_end 4 (table s) < 2 ^ 32
