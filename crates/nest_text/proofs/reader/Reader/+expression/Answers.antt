use Rattle.std.proofs.Common.{sym}
use Rattle.nest_text.proofs.ProductionLaws.{load-room, start-fits}
use Rattle.nest_text.proofs.reader.Reader.+expression.Goals as goal

pub load-number_access-access-requires : goal.load-number_access-access-requires
load-number_access-access-requires m c = load-room c.args.names.now _ _ _ _ _ _ _ c.in_ok-begin_access.ensures.begun c.in_ok-depth.ensures.read c.in_ok-address.ensures c.in_ok-close.ensures

pub unary-value_of-requires : goal.unary-value_of-requires
unary-value_of-requires m c = start-fits c.token.result c.in-Number.number (sym c.in-Number.ensures) c.token.ensures.fits
