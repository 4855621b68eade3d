use Rattle.nest_text.proofs.ProductionLaws.{store-room}
use Rattle.nest_text.proofs.reader.Reader.store.Goals as goal

pub number_access-access-requires : goal.number_access-access-requires
number_access-access-requires c = store-room _ _ _ _ _ _ _ _ _ _ c.in_ok-begin_access.ensures.begun c.skip.ensures c.in_ok-address.ensures c.in_ok-need.ensures c.in_ok-need-2.ensures c.in_ok-value.ensures
