-- A renamed field has its new name, and keeps its size and its type.
use Rattle.std.proofs.Common.{◌≡◌, ℕ, List, refl}
use Rattle.values.specs.Rose.{Rose, node, rose_size}
use Rattle.values.specs.Logical.{NamedType}
use Rattle.view_lang.specs.TableRules.{type_of}
use Rattle.view_lang.specs.Fields.{renamed}
use Rattle.view_config.specs.Columns.{name_of}

pub renamed-size : (name : List ℕ) (f : Rose NamedType) → rose_size (renamed name f) ≡ rose_size f
renamed-size name (node f kids) = refl

pub renamed-type : (name : List ℕ) (f : Rose NamedType) → type_of (renamed name f) ≡ type_of f
renamed-type name (node f kids) = refl

pub renamed-name : (name : List ℕ) (f : Rose NamedType) → name_of (renamed name f) ≡ name
renamed-name name (node f kids) = refl
