-- The kinds of record in a plan file: the table of the plan file, a line a kind. Assumes nothing.
use Rattle.std.specs.Prelude.{ℕ, ◌+◌, ◌*◌, cond, List, [], ◌∷◌, eqb, get_or, length}

-- what a kind says of its record, in numbers: its sort, its length with the kind's byte, where its code stands and between what it lies, where its
-- numbers begin and of what sort each is, the bytes of a literal, and the kind of the items that follow
pub record Row : Type 0 where
  pub sort : ℕ
  pub length : ℕ
  pub code : ℕ
  pub low : ℕ
  pub high : ℕ
  pub from : ℕ
  pub a : ℕ
  pub b : ℕ
  pub c : ℕ
  pub d : ℕ
  pub bits : ℕ
  pub item : ℕ

-- the sort of a record
abbrev pub unknown : ℕ
unknown = 0

abbrev pub columns : ℕ
columns = 1

abbrev pub expressions : ℕ
expressions = 2

abbrev pub operators : ℕ
operators = 3

abbrev pub items : ℕ
items = 4

-- the sort of a number in a body: none, any, a handle of a sort, an expression before the nary, how many items follow
abbrev pub none : ℕ
none = 0

abbrev pub number : ℕ
number = 1

abbrev pub column : ℕ
column = 2

abbrev pub expression : ℕ
expression = 3

abbrev pub operator : ℕ
operator = 4

abbrev pub operand : ℕ
operand = 5

abbrev pub count : ℕ
count = 6

-- w numbers
abbrev pub plain_row : ℕ → ℕ → ℕ → ℕ → ℕ → ℕ → ℕ → Row
plain_row sort w a b c d item =
    record { sort = sort; length = 1 + 2 * w; code = 0; low = 0; high = 0; from = 1; a = a; b = b; c = c; d = d; bits = 0; item = item }

-- a code from low to high, then w numbers
abbrev pub coded_row : ℕ → ℕ → ℕ → ℕ → ℕ → ℕ → ℕ → ℕ → ℕ → Row
coded_row sort low high w a b c d item =
    record { sort = sort; length = 2 + 2 * w; code = 1; low = low; high = high; from = 2; a = a; b = b; c = c; d = d; bits = 0; item = item }

-- a number, then a code from low to high
abbrev pub named : ℕ → ℕ → ℕ → Row
named sort low high =
    record { sort = sort; length = 4; code = 3; low = low; high = high; from = 1; a = number; b = none; c = none; d = none; bits = 0; item = 0 }

-- n bytes
abbrev pub literal : ℕ → Row
literal n =
    record { sort = expressions; length = 1 + n; code = 0; low = 0; high = 0; from = 1; a = none; b = none; c = none; d = none; bits = n; item = 0 }

-- the same with the numbers in a list
abbrev pub plain : ℕ → List ℕ → ℕ → Row
plain sort ws item = plain_row sort (length ws) (get_or ws 0 none) (get_or ws 1 none) (get_or ws 2 none) (get_or ws 3 none) item

abbrev pub coded : ℕ → ℕ → ℕ → List ℕ → ℕ → Row
coded sort low high ws item = coded_row sort low high (length ws) (get_or ws 0 none) (get_or ws 1 none) (get_or ws 2 none) (get_or ws 3 none) item

-- a kind and its row
pub record Line : Type 0 where
  pub kind : ℕ
  pub row : Row

abbrev ◌is◌ : ℕ → Row → Line
◌is◌ k r = record { kind = k; row = r }

infix 40 ◌is◌
abbrev pub kinds : List Line
kinds =
    (0x01 is named columns 1 5) ∷  -- column: name, kind code
    (0x10 is coded expressions 1 5 [] 0) ∷  -- Null: kind code
    (0x11 is coded expressions 0 1 [] 0) ∷  -- Boolean: 0 or 1
    (0x12 is literal 4) ∷  -- Int32
    (0x13 is literal 8) ∷  -- Int64
    (0x14 is literal 8) ∷  -- Float64 bits
    (0x15 is literal 4) ∷  -- Date32
    (0x20 is plain expressions (column ∷ []) 0) ∷  -- column reference: column
    (0x21 is coded expressions 0 3 (expression ∷ []) 0) ∷  -- unary: code, expression
    (0x22 is coded expressions 0 6 (expression ∷ expression ∷ []) 0) ∷  -- comparison: code, left, right
    (0x23 is coded expressions 0 1 (count ∷ []) 0x24) ∷  -- nary: code, count; then 24s
    (0x24 is plain items (operand ∷ []) 0) ∷  -- operand: expression
    (0x30 is plain operators (number ∷ count ∷ []) 0x40) ∷  -- Scan: table, count; then 40s
    (0x31 is plain operators (count ∷ []) 0x40) ∷  -- ConstScan: count; then 40s
    (0x32 is plain operators (count ∷ []) 0x40) ∷  -- TableFunction: count; then 40s
    (0x33 is plain operators (expression ∷ operator ∷ []) 0) ∷  -- Selection: predicate, input
    (0x34 is plain operators (operator ∷ count ∷ []) 0x40) ∷  -- Projection: input, count; then 40s
    (0x35 is plain operators (operator ∷ count ∷ []) 0x41) ∷  -- Rename: input, count; then 41s
    (0x36 is plain operators (operator ∷ count ∷ []) 0x42) ∷  -- Map: input, count; then 42s
    (0x37 is plain operators (operator ∷ count ∷ count ∷ []) 0x43) ∷  -- Aggregation: input, keys, aggregates; then 43s, then 40s
    (0x38 is plain operators (operator ∷ count ∷ []) 0x43) ∷  -- Sort: input, count; then 43s
    (0x39 is plain operators (operator ∷ []) 0) ∷  -- Limit: input
    (0x3A is plain operators (operator ∷ []) 0) ∷  -- Output: input
    (0x3B is plain operators (operator ∷ operator ∷ []) 0) ∷  -- CrossProduct: outer, inner
    (0x3C is coded operators 0 6 (expression ∷ operator ∷ operator ∷ []) 0) ∷  -- Join: type code, on, outer, inner
    (0x3D is plain operators (expression ∷ operator ∷ operator ∷ column ∷ []) 0) ∷  -- LeftMark join: on, outer, inner, marker column
    (0x40 is plain items (column ∷ []) 0) ∷  -- column
    (0x41 is plain items (column ∷ column ∷ []) 0) ∷  -- renamed, original
    (0x42 is plain items (column ∷ expression ∷ []) 0) ∷  -- column, expression
    (0x43 is plain items (expression ∷ []) 0) ∷  -- expression
    []

abbrev pub unlisted : Row
unlisted = plain unknown [] 0

unfoldable pub line_of : List Line → ℕ → Row
line_of [] k = unlisted
line_of (l ∷ ls) k = cond (eqb k l.kind) l.row (line_of ls k)

unfoldable pub row_of : ℕ → Row
row_of k = line_of kinds k
