-- For the contracts inside: what a refused offer hands back.
use Rattle.cluster_state.specs.declared.request.Request.{Request}
use Rattle.master_tasks.specs.declared.tasks.OfferError.{OfferError}
use Rattle.master_tasks.specs.declared.tasks.OfferError.TheVariants.{QueueFull, Memory}

abbrev pub request_in : OfferError → Request
request_in (QueueFull request) = request
request_in (Memory request) = request
