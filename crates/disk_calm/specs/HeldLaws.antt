-- That files and drafts hold bytes can be shown in one way only.
use Rattle.std.specs.Prelude.{ℕ, List, [], get_or, Option, None, Some, IfSome}
use Rattle.std.specs.Coded.{le_prop}
use Rattle.disk_model.specs.Bytes.{AreBytes}
use Rattle.disk_model.specs.Files.{parity_of, content_of}
use Rattle.disk_calm.specs.Held.{Held, HoldsBytes}

pub AreBytes-prop : (bytes : List ℕ) → IsProp (AreBytes bytes)
AreBytes-prop bytes x y i = λ k d below. le_prop (x k d below) (y k d below) i

if_some_prop : (content : Option (List ℕ)) → IsProp (IfSome content AreBytes)
if_some_prop None x y i = tt
if_some_prop (Some bytes) x y i = AreBytes-prop bytes x y i

pub HoldsBytes-prop : (h : Held) → IsProp (HoldsBytes h)
HoldsBytes-prop h x y i = record {
  parities = λ level. AreBytes-prop (parity_of h.files level) (x.parities level) (y.parities level) i;
  contents = λ copy. if_some_prop (content_of h.files copy) (x.contents copy) (y.contents copy) i;
  staged = λ copy. AreBytes-prop (get_or h.staged copy []) (x.staged copy) (y.staged copy) i;
}
