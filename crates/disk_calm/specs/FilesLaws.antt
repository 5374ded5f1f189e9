-- That files are a tree in order can be shown in one way only.
use Rattle.std.specs.Prelude.{◌≡◌, ℕ, ◌<◌, List, [], ◌∷◌, Bool, false, IsUtf8}
use Rattle.std.specs.Ordering.{nat_cmp}
use Rattle.std.specs.Cmp.Lexicographic.{slice_cmp}
use Rattle.std.specs.declared.cmp.Ordering.{Ordering}
use Rattle.std.specs.declared.cmp.Ordering.TheVariants.{Less}
use Rattle.std.proofs.Props.{props}
use Rattle.std.specs.Coded.{le_prop}
use Rattle.std.specs.List.{AllByRecursion-prop, All}
use Rattle.disk_model.specs.Path.{IsComponent, IsValidPath, components}
use Rattle.disk_model.specs.Tree.{Tree, File, IsFile, IsTree, IsApart, is_directory_of}
use Rattle.disk_calm.specs.Files.{IsKept, IsRising, tree_of}
use Rattle.disk_calm.specs.declared.files.MemFile.{MemFile}

not_prop : (A : Type 0) → IsProp (¬ A)
not_prop A x y i = λ a. let same : x a ≡ y a = absurd (x a) in same i

tests_prop : (a b : Bool) → IsProp (a ≡ b)
tests_prop a b = Prim.hlevel props

orders_prop : (a b : Ordering) → IsProp (a ≡ b)
orders_prop a b = Prim.hlevel props

utf8_prop : (bytes : List ℕ) → IsProp (IsUtf8 bytes)
utf8_prop bytes = Prim.hlevel props

All-prop : {X : Type 0} (P : X → Type 0) → ((x : X) → IsProp (P x)) → (xs : List X) → IsProp (All P xs)
All-prop P p xs x y i = λ k d below. p _ (x k d below) (y k d below) i

IsComponent-prop : (part : List ℕ) → IsProp (IsComponent part)
IsComponent-prop part x y i = record { some = not_prop _ x.some y.some i; not_dot = not_prop _ x.not_dot y.not_dot i; not_dots = not_prop _ x.not_dots y.not_dots i }

IsValidPath-prop : (path : List ℕ) → IsProp (IsValidPath path)
IsValidPath-prop path x y i = record {
  utf8 = utf8_prop path x.utf8 y.utf8 i;
  short = le_prop x.short y.short i;
  no_zero = not_prop _ x.no_zero y.no_zero i;
  components = AllByRecursion-prop IsComponent IsComponent-prop (components path) x.components y.components i;
}

IsApart-prop : (tree : Tree) (path : List ℕ) → IsProp (IsApart tree path)
IsApart-prop tree path x y i = λ other file found. (
  tests_prop (is_directory_of other path) false (x other file found).0 (y other file found).0 i,
  tests_prop (is_directory_of path other) false (x other file found).1 (y other file found).1 i,
)

IsFile-prop : (tree : Tree) (path : List ℕ) (file : File) → IsProp (IsFile tree path file)
IsFile-prop tree path file x y i = record {
  valid = IsValidPath-prop path x.valid y.valid i;
  stamp = le_prop x.stamp y.stamp i;
  bytes = All-prop (λ byte. byte < 256) (λ byte p q. le_prop p q) file.bytes x.bytes y.bytes i;
  size = le_prop x.size y.size i;
  apart = IsApart-prop tree path x.apart y.apart i;
}

IsTree-prop : (tree : Tree) → IsProp (IsTree tree)
IsTree-prop tree x y i = λ path file found. IsFile-prop tree path file (x path file found) (y path file found) i

IsRising-prop : (files : List MemFile) → IsProp (IsRising files)
IsRising-prop [] = Prim.hlevel props
IsRising-prop (f ∷ files) = λ x y i. (
  AllByRecursion-prop (λ (g : MemFile). slice_cmp nat_cmp f.path g.path ≡ Less) (λ g. orders_prop (slice_cmp nat_cmp f.path g.path) Less) files x.0 y.0 i,
  IsRising-prop files x.1 y.1 i,
)

pub IsKept-prop : (files : List MemFile) → IsProp (IsKept files)
IsKept-prop files x y i = record { rising = IsRising-prop files x.rising y.rising i; tree = IsTree-prop (tree_of files) x.tree y.tree i }
