-- Whether two values are the same, kind by kind and field by field. Then they have the same bytes.
use Rattle.std.specs.Prelude.{Bool, true, false, ◌&&◌, ◌==◌}
use Rattle.std.specs.Ordering.{int_eq}
use Rattle.std.specs.Str.{bytes_eq}
use Rattle.bson_doc.specs.Tree.{Tree, null, int32, int64, text, document, array, binary, object_id, boolean, date, timestamp, Fields, no_fields, field, Trees, no_items, item}

abbrev pub same_truth : Bool → Bool → Bool
same_truth true b = b
same_truth false true = false
same_truth false false = true

abbrev mutual
  pub same_tree : Tree → Tree → Bool
  same_tree null null = true
  same_tree (int32 m) (int32 n) = int_eq m n
  same_tree (int64 m) (int64 n) = int_eq m n
  same_tree (text a) (text b) = bytes_eq a b
  same_tree (document a) (document b) = same_fields a b
  same_tree (array a) (array b) = same_items a b
  same_tree (binary s a) (binary t b) = s == t && bytes_eq a b
  same_tree (object_id a) (object_id b) = bytes_eq a b
  same_tree (boolean a) (boolean b) = same_truth a b
  same_tree (date m) (date n) = int_eq m n
  same_tree (timestamp a) (timestamp b) = a == b
  same_tree _ _ = false

  pub same_fields : Fields → Fields → Bool
  same_fields no_fields no_fields = true
  same_fields (field n v a) (field m w b) = bytes_eq n m && same_tree v w && same_fields a b
  same_fields no_fields (field m w b) = false
  same_fields (field n v a) no_fields = false

  pub same_items : Trees → Trees → Bool
  same_items no_items no_items = true
  same_items (item v a) (item w b) = same_tree v w && same_items a b
  same_items no_items (item w b) = false
  same_items (item v a) no_items = false
