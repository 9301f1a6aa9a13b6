-- What reads no item of a list and no child of a struct is the same for a value and for its view.
use Rattle.std.proofs.Common.{◌≡◌, refl}
use Rattle.values.specs.Datum.{Datum, null, truth, whole, text, bytes, list, structure, is_null}
use Rattle.values.specs.CellViews.{shallow}
use Rattle.values.specs.Keys.{key_of}
use Rattle.values.specs.Order.{datum_cmp}

pub is_null-shallow : (d : Datum) → is_null (shallow d) ≡ is_null d
is_null-shallow null = refl
is_null-shallow (truth b) = refl
is_null-shallow (whole n) = refl
is_null-shallow (text t) = refl
is_null-shallow (bytes b) = refl
is_null-shallow (list es) = refl
is_null-shallow (structure es) = refl

pub key_of-shallow : (d : Datum) → key_of (shallow d) ≡ key_of d
key_of-shallow null = refl
key_of-shallow (truth b) = refl
key_of-shallow (whole n) = refl
key_of-shallow (text t) = refl
key_of-shallow (bytes b) = refl
key_of-shallow (list es) = refl
key_of-shallow (structure es) = refl

pub datum_cmp-shallow : (a b : Datum) → datum_cmp (shallow a) (shallow b) ≡ datum_cmp a b
datum_cmp-shallow null null = refl
datum_cmp-shallow null (truth b2) = refl
datum_cmp-shallow null (whole n2) = refl
datum_cmp-shallow null (text t2) = refl
datum_cmp-shallow null (bytes b2) = refl
datum_cmp-shallow null (list es2) = refl
datum_cmp-shallow null (structure es2) = refl
datum_cmp-shallow (truth b) null = refl
datum_cmp-shallow (truth b) (truth b2) = refl
datum_cmp-shallow (truth b) (whole n2) = refl
datum_cmp-shallow (truth b) (text t2) = refl
datum_cmp-shallow (truth b) (bytes b2) = refl
datum_cmp-shallow (truth b) (list es2) = refl
datum_cmp-shallow (truth b) (structure es2) = refl
datum_cmp-shallow (whole n) null = refl
datum_cmp-shallow (whole n) (truth b2) = refl
datum_cmp-shallow (whole n) (whole n2) = refl
datum_cmp-shallow (whole n) (text t2) = refl
datum_cmp-shallow (whole n) (bytes b2) = refl
datum_cmp-shallow (whole n) (list es2) = refl
datum_cmp-shallow (whole n) (structure es2) = refl
datum_cmp-shallow (text t) null = refl
datum_cmp-shallow (text t) (truth b2) = refl
datum_cmp-shallow (text t) (whole n2) = refl
datum_cmp-shallow (text t) (text t2) = refl
datum_cmp-shallow (text t) (bytes b2) = refl
datum_cmp-shallow (text t) (list es2) = refl
datum_cmp-shallow (text t) (structure es2) = refl
datum_cmp-shallow (bytes b) null = refl
datum_cmp-shallow (bytes b) (truth b2) = refl
datum_cmp-shallow (bytes b) (whole n2) = refl
datum_cmp-shallow (bytes b) (text t2) = refl
datum_cmp-shallow (bytes b) (bytes b2) = refl
datum_cmp-shallow (bytes b) (list es2) = refl
datum_cmp-shallow (bytes b) (structure es2) = refl
datum_cmp-shallow (list es) null = refl
datum_cmp-shallow (list es) (truth b2) = refl
datum_cmp-shallow (list es) (whole n2) = refl
datum_cmp-shallow (list es) (text t2) = refl
datum_cmp-shallow (list es) (bytes b2) = refl
datum_cmp-shallow (list es) (list es2) = refl
datum_cmp-shallow (list es) (structure es2) = refl
datum_cmp-shallow (structure es) null = refl
datum_cmp-shallow (structure es) (truth b2) = refl
datum_cmp-shallow (structure es) (whole n2) = refl
datum_cmp-shallow (structure es) (text t2) = refl
datum_cmp-shallow (structure es) (bytes b2) = refl
datum_cmp-shallow (structure es) (list es2) = refl
datum_cmp-shallow (structure es) (structure es2) = refl

pub ruleset shallow_laws = (is_null-shallow, key_of-shallow, datum_cmp-shallow)
