-- The states of views, taken apart.
use Rattle.group_order.specs.RankedParts.{AreRanked, ranked_with}
use Rattle.group_state.specs.GroupParts.{AreGroups}
use Rattle.lookups.specs.ReferrersParts.{rows_with}
use Rattle.lookups.specs.Refers.{IsOrdered}
use Rattle.sub_groups.specs.SubGroups.{sub_groups_with}
use Rattle.top_rows.specs.OrderParts.{AreAscending, ordered_with}
use Rattle.upkeep.specs.declared.parts.MaterializedParts.{MaterializedParts}
use Rattle.upkeep.specs.declared.parts.MaterializedParts.TheVariants as parts
use Rattle.upkeep.specs.declared.parts.LinksParts.{LinksParts}
use Rattle.upkeep.specs.declared.parts.LinksParts.TheVariants as link_parts
use Rattle.upkeep.specs.declared.parts.ViewParts.{ViewParts}
use Rattle.upkeep.specs.declared.view_state.Materialized.{Materialized}
use Rattle.upkeep.specs.declared.view_state.Materialized.TheVariants as kept
use Rattle.upkeep.specs.declared.view_state.Links.{Links}
use Rattle.upkeep.specs.declared.view_state.Links.TheVariants as links
use Rattle.upkeep.specs.declared.view_state.ViewState.{ViewState}

abbrev pub kept_with : MaterializedParts → Materialized
kept_with parts.Live = kept.Live
kept_with (parts.Order o) = kept.Order (ordered_with o)
kept_with (parts.Groups g) = kept.Groups (ranked_with g)

abbrev pub links_with : LinksParts → Links
links_with (link_parts.Rows r) = links.Rows (rows_with r)
links_with (link_parts.SubGroups g) = links.SubGroups (sub_groups_with g)

-- the state of a view that has these parts
abbrev pub state_with : ViewParts → ViewState
state_with p = record { stale = p.stale; kept = kept_with p.kept; links = links_with p.links }

-- Entries ascend, and groups are such as are computed from rows.
abbrev pub AreMaterializedParts : MaterializedParts → Type 0
AreMaterializedParts parts.Live = Unit {0}
AreMaterializedParts (parts.Order o) = AreAscending o
AreMaterializedParts (parts.Groups g) = AreRanked g

-- Numbers ascend, and groups are such as are computed from rows.
abbrev pub AreLinksParts : LinksParts → Type 0
AreLinksParts (link_parts.Rows r) = IsOrdered (rows_with r)
AreLinksParts (link_parts.SubGroups g) = AreGroups g

-- There is a state that has these parts.
pub record IsState (p : ViewParts) : Type 0 where
  pub kept : AreMaterializedParts p.kept
  pub links : AreLinksParts p.links
